-- `mark` meets its contract. The loop's invariant: the lines before q are good, line q is good as far as the cell, and the marks are of what was passed. The measure is the number of places with no mark. Assumes nothing.
use mathlib.Core.Path.{◌≡◌}
use lib.ListN.{get_or}
use native.Mathlib.Omega.{arith}
use Rattle.lists.specs.Lists.{none}
use Rattle.lists.specs.Tells.{tells_no, tells_eq}
use Rattle.lines.specs.Test.{scan_start, scan_in, scan_step, bare_less, done_high, done_place, bad_high, bad_twice, bad_own, bad_last}
use Rattle.lines.proofs.mark.Goals as goal

pub loop-at-init : goal.loop-at-init
loop-at-init c = scan_start c.requires.1

pub bounds-l-at : goal.bounds-l-at
bounds-l-at c =
    let w = c.loop-at in
    let b = scan_in w.invariant c.requires.0 (omega arith) (omega arith) in
    omega arith

pub bounds-l-at-in-loop-at : goal.bounds-l-at-in-loop-at
bounds-l-at-in-loop-at c =
    let w = c.loop-at in
    let b = scan_in w.invariant c.requires.0 (omega arith) (omega arith) in
    omega arith

pub returns-then-i-ge-PLACES : goal.returns-then-i-ge-PLACES
returns-then-i-ge-PLACES c =
    let w = c.loop-at in
    tells_no λ z. bad_high w.invariant c.requires.0 (omega arith) (omega arith) z c.loop-at-test.true c.if-i-ge-PLACES.true

pub returns-then-seen-i : goal.returns-then-seen-i
returns-then-seen-i c =
    let w = c.loop-at in
    tells_no λ z. bad_twice w.invariant c.requires.0 (omega arith) (omega arith) z c.loop-at-test.true (omega arith) c.if-seen-i.true

pub loop-at-smaller : goal.loop-at-smaller
loop-at-smaller c =
    let w = c.loop-at in
    let r = w.invariant.room in
    bare_less w.seen (get_or c.args.l.now w.at 0) (omega arith) (omega arith) c.args.q (λ z. let p = c.requires.0 in omega arith)

pub loop-at-preserved : goal.loop-at-preserved
loop-at-preserved c =
    let w = c.loop-at in
    let n : get_or w.seen (get_or c.args.l.now w.at 0) 0 ≡ none = omega arith in
    scan_step w.invariant c.requires.0 (omega arith) (omega arith) (omega arith) n

pub returns-then-at-lt-PLACES : goal.returns-then-at-lt-PLACES
returns-then-at-lt-PLACES c =
    let w = c.loop-at in
    tells_eq _ _
    (λ t. done_place w.invariant c.requires.0 (omega arith) (omega arith) (omega arith) c.if-at-lt-PLACES.true t)
    (λ t z. bad_last w.invariant c.requires.0 (omega arith) (omega arith) z (omega arith) c.if-at-lt-PLACES.true t)

pub returns : goal.returns
returns c =
    let w = c.loop-at in
    tells_eq _ _
    (λ t. done_high w.invariant c.requires.0 (omega arith) (omega arith) (omega arith) c.if-at-lt-PLACES.false t)
    (λ t z. bad_own w.invariant c.requires.0 (omega arith) (omega arith) z (omega arith) c.if-at-lt-PLACES.false t)
