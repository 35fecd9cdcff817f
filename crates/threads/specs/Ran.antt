-- What `run` promises of an event: the lent arrays stand for a consistent nucleus again, the one that the rules say, and so do code and number.
use Rattle.std.specs.Prelude.{◌≡◌, List, Bool, ℕ}
use Rattle.std.proofs.Common.{sym, ap, subst, ◌∙◌, ne_eqb}
use Rattle.filled.specs.Filled.{word_of}
use Rattle.filled.specs.Words.{word_ext}
use Rattle.rules.specs.Model.{places, Model, lives_at}
use Rattle.rules.specs.Rules.{dispatched, act, refusal, next, given}
use Rattle.rules.specs.Consistent.{Consistent}
use Rattle.rules.specs.declared.Event.{Event}
use Rattle.order.proofs.Keeps.{acts}
use Rattle.order.specs.Lives.{lives_now}
use Rattle.order.proofs.Lives.{lives}
use Rattle.table.specs.Cells.{shown, stands_at, Filled, Stands}
use Rattle.table.specs.declared.Arrays.{Arrays}
use Rattle.table.specs.declared.Desk.{Desk}
use Rattle.verbs.specs.Steps.{Turns}
use Rattle.events.specs.Events.{Did, lives_shown}
use Rattle.events.specs.declared.Outcome.{Outcome}

-- what the event e did
pub record Ran (d : Desk) (b w l : List ℕ) (e : Event) (r : Outcome) (b' w' l' : List ℕ) : Type 0 where
  pub stands : Stands r.desk b' w' l'
  pub seen : shown r.desk b' w' l' ≡ next e (shown d b w l)
  pub code : r.code ≡ refusal e (shown d b w l)
  pub number : r.number.0 ≡ given e (shown d b w l)

-- the same of the arrays as they are lent
abbrev pub RanIn : Desk → Arrays → Event → Outcome → Arrays → Type 0
RanIn d a e r a' = Ran d a.table.blocks a.table.words a.lines e r a'.table.blocks a'.table.words a'.lines

-- the same event by another name
pub same_event : {d : Desk} {b w l : List ℕ} {e f : Event} {r : Outcome} {b' w' l' : List ℕ} → e ≡ f → Did d b w l f r b' w' l' → Did d b w l e r b' w' l'
same_event z t = rw z t

-- a set that agrees with who lives is that of the blocks
pub filled_by : (d : Desk) (b w l : List ℕ) (x : ℕ) (f : ℕ → Bool) → x ≡ word_of places f → ((p : ℕ) → lives_at (shown d b w l) p ≡ f p) → Filled x b
filled_by d b w l x f e g = e ∙ word_ext places f (stands_at b) (λ p h. sym (g p) ∙ lives_shown d b w l p h)

-- ---- and then the front of ready is started

module _ {d : Desk} {b w l : List ℕ} (k : Stands d b w l) (e : Event) {r : Outcome} {b' w' l' : List ℕ} (t : Did d b w l e r b' w' l') where
  pub ran_not : (r.code ≡ 0 → ⊥) → Ran d b w l e r b' w' l'
  ran_not z =
      let f = ne_eqb (refusal e (shown d b w l)) 0 (λ y. z (t.code ∙ y)) in
      let s : shown r.desk b' w' l' ≡ shown d b w l = rw f at t.seen in
      let g : r.desk.filled ≡ word_of places (lives_at (shown d b w l)) = rw f at t.filled in
      record {
        stands = record {
          whole = t.whole;
          filled = filled_by r.desk b' w' l' r.desk.filled (lives_at (shown d b w l)) g (λ p. ap (λ (m : Model). lives_at m p) s);
          consistent = subst Consistent (sym s) k.consistent;
        };
        seen = rw f s;
        code = t.code;
        number = t.number;
      }

  pub ran : r.code ≡ 0 → {d'' : Desk} {b'' w'' l'' : List ℕ} → Turns r.desk b' w' l' d'' b'' w'' l'' dispatched
      → Ran d b w l e (record { code = r.code; desk = d''; number = r.number }) b'' w'' l''
  ran z {d''} {b''} {w''} {l''} u =
      let c : refusal e (shown d b w l) ≡ 0 = sym t.code ∙ z in
      let s : shown r.desk b' w' l' ≡ act e (shown d b w l) = rw c at t.seen in
      let v : shown d'' b'' w'' l'' ≡ dispatched (act e (shown d b w l)) = u.seen ∙ ap dispatched s in
      let g : r.desk.filled ≡ word_of places (lives_now e (shown d b w l)) = rw c at t.filled in
      record {
        stands = record {
          whole = u.whole;
          filled = filled_by d'' b'' w'' l'' d''.filled (lives_now e (shown d b w l)) (u.filled ∙ g)
              (λ p. ap (λ (m : Model). lives_at m p) v ∙ lives e (shown d b w l) k.consistent t.fits c p);
          consistent = subst Consistent (sym v) (acts e (shown d b w l) k.consistent t.fits c);
        };
        seen = rw c v;
        code = t.code;
        number = t.number;
      }
