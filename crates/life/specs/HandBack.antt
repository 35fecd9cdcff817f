-- Event 5, end, the first hand-backs: those in the inbox of the one that ends, front to back, have their own word back.
use Rattle.std.specs.Prelude.{◌≡◌, refl, List, [], ◌∷◌, ◌++◌, ℕ, ◌<◌, get_or}
use Rattle.std.proofs.Common.{sym, ap, ◌∙◌, arith, get_or-set_other}
use Rattle.rules.specs.Model.{places, Thread, Model, ready, inbox, thread, line}
use Rattle.rules.specs.Rules.{relined, woken, handed_back}
use Rattle.table.specs.Cells.{cell, model_of}
use Rattle.table.specs.Rows.{thread_at}
use Rattle.verbs.specs.Steps.{Steps}
use Rattle.life.specs.Drain.{drained, Spares}

-- p gets answer 16, n, and its own word back, and joins ready
abbrev pub backs : ℕ → ℕ → Model → Model
backs n p m = woken p 16 n (thread m p).word m

pub backs_spare : (n q : ℕ) → 0 < q → Spares (backs n) q
backs_spare n q h p m = get_or-set_other m.lines ready q (line m ready ++ (p ∷ [])) [] (omega arith)

-- the word that is read is its own
pub backed : {b w l b' w' l' : List ℕ} {p n x : ℕ} → p < places → x ≡ get_or w (cell 0 p) 0 → Steps b w l b' w' l' (woken p 16 n x) → Steps b w l b' w' l' (backs n p)
backed {b} {w} {l} {p = p} {n} h e s = record {
  whole = s.whole;
  seen = λ y z. s.seen y z ∙ ap (λ (v : ℕ). woken p 16 n v (model_of y z b w l)) (e ∙ ap (λ (t : Thread). t.word) (sym (thread_at y z b w l p h)));
}

-- the loop is the rule
pub handed_drained : (n r : ℕ) (ps : List ℕ) (m : Model) → drained (backs n) (inbox r) ps m ≡ handed_back n r ps m
handed_drained n r [] m = refl
handed_drained n r (p ∷ ps) m = handed_drained n r ps (backs n p (relined (inbox r) ps m))
