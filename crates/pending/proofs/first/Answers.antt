-- `first` meets its contract. There are at most as many zeros as digits, so the numbers fit a byte.
use mathlib.Core.Path.{sym}
use native.Mathlib.Omega.{arith}
use Rattle.rules.specs.Known.{device_at, device_not}
use lib.Count.{trailing_le}
use Rattle.rules.specs.Devices.{low_digits}
use Rattle.pending.specs.First.{high_digits, low_first, high_first, none_first}
use Rattle.pending.proofs.first.Goals as goal

pub overflow_cast-i : goal.overflow_cast-i
overflow_cast-i c = let h = trailing_le low_digits c.args.s.low in omega arith

pub returns-then-i-lt-LOW : goal.returns-then-i-lt-LOW
returns-then-i-lt-LOW c = device_at (sym (low_first c.args.s c.if-i-lt-LOW.true)) (omega (arith, c.if-i-lt-LOW.true))

pub overflow_cast-j : goal.overflow_cast-j
overflow_cast-j c = let h = trailing_le high_digits c.args.s.high in omega arith

pub returns-then-j-lt-HIGH : goal.returns-then-j-lt-HIGH
returns-then-j-lt-HIGH c = device_at (sym (high_first c.args.s c.if-i-lt-LOW.false (omega (arith, c.if-j-lt-HIGH.true)))) (omega (arith, c.if-j-lt-HIGH.true))

pub returns : goal.returns
returns c = device_not (sym (none_first c.args.s c.if-i-lt-LOW.false c.if-j-lt-HIGH.false))
