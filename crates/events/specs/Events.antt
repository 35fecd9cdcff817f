-- What the core of an event promises: the rules' code and number, and the model that the rules' act leaves, before the front of ready is started.
use Rattle.std.specs.Prelude.{◌≡◌, List, Result, Ok, Err, Bool, cond, not, ℕ, ◌^◌, ◌<◌, eqb}
use Rattle.std.proofs.Common.{sym, ap, ◌∙◌, arith, ne_eqb}
use Rattle.filled.specs.Filled.{word_of}
use Rattle.filled.specs.Words.{word_ext}
use Rattle.rules.specs.Values.{nobody, refusal_code}
use Rattle.rules.specs.declared.Refusal.{Refusal}
use Rattle.rules.specs.Model.{places, Empty, Thread, Model, lives_at}
use Rattle.rules.specs.Rules.{act, refusal, given}
use Rattle.rules.specs.Consistent.{Fits}
use Rattle.rules.specs.declared.Event.{Event}
use Rattle.order.specs.Lives.{lives_now}
use Rattle.table.specs.Cells.{shown, Whole, stands_at, StandsBy, Stands}
use Rattle.table.specs.Rows.{thread_at}
use Rattle.table.specs.declared.Arrays.{Arrays}
use Rattle.table.specs.declared.Desk.{Desk}
use Rattle.verbs.specs.Steps.{Turns}
use Rattle.events.specs.declared.Done.{Done}
use Rattle.events.specs.declared.Outcome.{Outcome}

-- what the rules say of m, before the front of ready is started: a refused event leaves it as it is
abbrev pub acted : Event → Model → Model
acted e m = cond (eqb (refusal e m) 0) (act e m) m

abbrev pub living : Event → Model → ℕ → Bool
living e m = cond (eqb (refusal e m) 0) (lives_now e m) (lives_at m)

-- what the core of the event e did, which does not dispatch
pub record Did (d : Desk) (b w l : List ℕ) (e : Event) (r : Outcome) (b' w' l' : List ℕ) : Type 0 where
  pub whole : Whole b' w' l'
  pub code : r.code ≡ refusal e (shown d b w l)
  pub number : r.number.0 ≡ given e (shown d b w l)
  pub seen : shown r.desk b' w' l' ≡ acted e (shown d b w l)
  pub filled : r.desk.filled ≡ word_of places (living e (shown d b w l))
  -- the event is one that the code can hold: the types of its word and its pending set say so to whoever is lent them
  pub fits : Fits e

-- an outcome that gives no number
abbrev pub answered : ℕ → Desk → Outcome
answered c d = record { code = c; desk = d; number = record { 0 = nobody } }

-- what comes of an event that is done, and gives no number
abbrev pub done_at : Desk → Done
done_at d = record { desk = d; number = record { 0 = nobody } }

-- what comes of an event, where a core answers so: a refused one leaves the desk as it is
abbrev pub outcome_of : Desk → Result Done Refusal → Outcome
outcome_of d (Ok x) = record { code = 0; desk = x.desk; number = x.number }
outcome_of d (Err e) = answered (refusal_code e) d

pub done_is : (e : Desk) {x : Done} {d : Desk} → x ≡ done_at d → outcome_of e (Ok x) ≡ answered 0 d
done_is e z = ap (λ (x : Done). outcome_of e (Ok x)) z

-- what the core of the event e did to the arrays that it was lent
abbrev pub DidIn : Desk → Arrays → Event → Result Done Refusal → Arrays → Type 0
DidIn d a e r a' = Did d a.table.blocks a.table.words a.lines e (outcome_of d r) a'.table.blocks a'.table.words a'.lines

-- an event with a word and no pending set, and most events have no word either
pub word_fits : {x : ℕ} → x < 2 ^ 32 → (x < 2 ^ 32) × (0 < 2 ^ 32) × (0 < 2 ^ 16)
word_fits h = (h, omega arith, omega arith)

pub no_word : (0 < 2 ^ 32) × (0 < 2 ^ 32) × (0 < 2 ^ 16)
no_word = word_fits (omega arith)

-- ---- the set of filled places is that of the live ones

pub lives_shown : (d : Desk) (b w l : List ℕ) (p : ℕ) → p < places → lives_at (shown d b w l) p ≡ stands_at b p
lives_shown d b w l p h = ap (λ (t : Thread). not (eqb t.standing Empty)) (thread_at d.last.0 d.running.0 b w l p h)

pub filled_lives : {strict : Bool} {d : Desk} {b w l : List ℕ} → StandsBy strict d b w l → d.filled ≡ word_of places (lives_at (shown d b w l))
filled_lives {d = d} {b} {w} {l} k = k.filled ∙ word_ext places (stands_at b) (lives_at (shown d b w l)) (λ p h. sym (lives_shown d b w l p h))

-- ---- refused, or done

module _ {d : Desk} {b w l : List ℕ} (k : Stands d b w l) (e : Event) (fits : Fits e) where
  pub refused : (n : ℕ) → (n ≡ 0 → ⊥) → refusal e (shown d b w l) ≡ n → given e (shown d b w l) ≡ nobody → {r : Outcome} → r ≡ answered n d → Did d b w l e r b w l
  refused n z c g a =
      let f = ne_eqb (refusal e (shown d b w l)) 0 (λ y. z (sym c ∙ y)) in
      rw a (record { whole = k.whole; code = sym c; number = sym g; seen = rw f; filled = rw f (filled_lives k); fits = fits })

  module _ (c : refusal e (shown d b w l) ≡ 0) {r : Desk} {b' w' l' : List ℕ} where
    pub does : (n : ℕ) → given e (shown d b w l) ≡ n → Whole b' w' l' → shown r b' w' l' ≡ act e (shown d b w l) → r.filled ≡ word_of places (lives_now e (shown d b w l))
        → Did d b w l e (record { code = 0; desk = r; number = record { 0 = n } }) b' w' l'
    does n g h s f = record { whole = h; code = sym c; number = sym g; seen = rw c s; filled = rw c f; fits = fits }

    -- nobody comes or goes
    pub done : given e (shown d b w l) ≡ nobody → ((p : ℕ) → lives_now e (shown d b w l) p ≡ lives_at (shown d b w l) p) → Turns d b w l r b' w' l' (act e) → {o : Outcome} → o ≡ answered 0 r → Did d b w l e o b' w' l'
    done g f t a =
        rw a (does nobody g t.whole t.seen
        (t.filled ∙ filled_lives k ∙ word_ext places (lives_at (shown d b w l)) (lives_now e (shown d b w l)) (λ p h. sym (f p))))
