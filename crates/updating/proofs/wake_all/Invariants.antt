-- `wake_all` meets its contract: the places from here on are left to do, and who was dead at the beginning is so still.
use mathlib.Core.List.{[]}
use Rattle.rules.specs.Rules.{deserted}
use Rattle.table.specs.Cells.{model_of}
use Rattle.life.specs.LetGo.{Letting}
use Rattle.updating.proofs.wake_all.Given as goal

abbrev pub invariant-loop-p : goal.invariant-loop-p
invariant-loop-p l = Letting (deserted (model_of 0 0 l.initial.a.table.blocks l.initial.a.table.words [])) l.initial.a.table.blocks l.initial.a.table.words l.initial.a.lines l.a.table.blocks l.a.table.words l.a.lines l.p
