-- Whom a caller names by a number, and the refusals 1 to 4 that send, receive and reply have in common.
use Rattle.std.specs.Prelude.{◌≡◌, refl, List, Option, Some, None, Result, Ok, Err, ok_or, IsErrAnd, Bool, true, false, cond, not, ℕ, ◌≤◌, ◌<◌, eqb, get_or}
use Rattle.std.proofs.Common.{sym, ap, subst, ◌∙◌, arith, eq-eqb, ne_eqb, lt-ltb, le-ltb}
use Rattle.std.proofs.lemmas.Bool.{eqb-false}
use Rattle.lists.specs.Lists.{none}
use Rattle.rules.specs.Values.{refusal_code, code_in, place_known}
use Rattle.rules.specs.Known.{place_none, place_some}
use Rattle.rules.specs.declared.Place.{Place}
use Rattle.rules.specs.declared.Refusal.{Refusal}
use Rattle.rules.specs.declared.Refusal.TheVariants.{Idle, NoNumber, OwnNumber, NotLive, NotAwaiting, Full}
use Rattle.rules.specs.Model.{places, last_number, Model}
use Rattle.rules.specs.Rules.{place_of, idle, mine, no_number, own_number, not_live, ◌gives◌else◌}
use Rattle.order.specs.Sound.{small}
use Rattle.order.specs.Places.{placed}
use Rattle.table.specs.Cells.{cell, shown, Stands}
use Rattle.table.specs.declared.Arrays.{Arrays}
use Rattle.table.specs.declared.Desk.{Desk}
use Rattle.verbs.specs.Caller.{sounds, caller_place, mine_is}
use Rattle.verbs.specs.Find.{found, found_is}

-- who runs, if anybody does, stands at a place
abbrev pub Seated : Desk → Type 0
Seated d = (d.running.0 ≡ none → ⊥) → d.running.0 < places

pub seated : {d : Desk} {b w l : List ℕ} → Stands d b w l → Seated d
seated k busy = caller_place k busy

-- ---- codes 1 to 3

-- why the caller may not name n, and x if it may
abbrev pub naming : Model → ℕ → ℕ → ℕ
naming m n x = idle m gives 1 else no_number n gives 2 else own_number m n gives 3 else x

abbrev pub NamesBy : Desk → List ℕ → ℕ → ℕ → Type 0
NamesBy d b n r = (w l : List ℕ) → Stands d b w l → r ≡ naming (shown d b w l) n 0

abbrev pub Names : {A : Type 0} → Desk → List ℕ → ℕ → Result A Refusal → Type 0
Names d b n r = NamesBy d b n (code_in r)

module _ {d : Desk} {b : List ℕ} (n : ℕ) where
  pub names_1 : d.running.0 ≡ none → NamesBy d b n 1
  names_1 e w l k = rw (eq-eqb d.running.0 none e)

  module _ (busy : d.running.0 ≡ none → ⊥) where
    pub names_2 : last_number < n → NamesBy d b n 2
    names_2 h w l k = rw (ne_eqb d.running.0 none busy, lt-ltb last_number n h)

    module _ (low : n ≤ last_number) {me : ℕ} (e : me ≡ get_or b (cell 0 d.running.0) 0) where
      pub names_3 : n ≡ me → NamesBy d b n 3
      names_3 z w l k = rw (ne_eqb d.running.0 none busy, le-ltb last_number n low, eq-eqb n (mine (shown d b w l)) (z ∙ e ∙ sym (mine_is k busy)))

      pub names_0 : (n ≡ me → ⊥) → NamesBy d b n 0
      names_0 z w l k = rw (ne_eqb d.running.0 none busy, le-ltb last_number n low, ne_eqb n (mine (shown d b w l)) (λ y. z (y ∙ mine_is k busy ∙ sym e)))

-- the code behind them
behind : (u v z : Bool) (x : ℕ) → (u gives 1 else v gives 2 else z gives 3 else x) ≡ cond (eqb (u gives 1 else v gives 2 else z gives 3 else 0) 0) x (u gives 1 else v gives 2 else z gives 3 else 0)
behind true v z x = refl
behind false true z x = refl
behind false false true x = refl
behind false false false x = refl

free : (u v z : Bool) → (u gives 1 else v gives 2 else z gives 3 else 0) ≡ 0 → (u ≡ false) × (v ≡ false) × (z ≡ false)
free true v z e = absurd (omega arith)
free false true z e = absurd (omega arith)
free false false true e = absurd (omega arith)
free false false false e = (refl, refl, refl)

module _ (m : Model) (n : ℕ) where
  -- named in vain, whatever comes behind
  pub naming_not : (c x : ℕ) → c ≡ naming m n 0 → (c ≡ 0 → ⊥) → naming m n x ≡ c
  naming_not c x e z = behind (idle m) (no_number n) (own_number m n) x ∙ rw (← e, ne_eqb c 0 z)

  pub naming_past : (x : ℕ) → naming m n 0 ≡ 0 → naming m n x ≡ x
  naming_past x e = behind (idle m) (no_number n) (own_number m n) x ∙ rw e

  pub naming_busy : naming m n 0 ≡ 0 → m.running ≡ none → ⊥
  naming_busy e = eqb-false _ _ (free (idle m) (no_number n) (own_number m n) e).0

-- ---- code 4

-- why the caller may not name a live thread n, and x if it may
abbrev pub addressing : Model → ℕ → ℕ → ℕ
addressing m n x = naming m n (not_live m n gives 4 else x)

-- number n lives at p, and somebody calls
pub record CallsOn (d : Desk) (b w l : List ℕ) (n p : ℕ) : Type 0 where
  pub stands : Stands d b w l
  pub busy : d.running.0 ≡ none → ⊥
  pub at : place_of (shown d b w l) n ≡ p
  pub known : p ≡ none → ⊥

-- the same of the arrays as they are lent
abbrev pub CallsIn : Desk → Arrays → ℕ → ℕ → Type 0
CallsIn d a n p = CallsOn d a.table.blocks a.table.words a.lines n p

pub record Addressed (d : Desk) (b w l : List ℕ) (n : ℕ) (r : Result Place Refusal) : Type 0 where
  pub not : {e : Refusal} → r ≡ Err e → (x : ℕ) → addressing (shown d b w l) n x ≡ refusal_code e
  pub past : {p : Place} → r ≡ Ok p → (x : ℕ) → addressing (shown d b w l) n x ≡ x
  pub calls : {p : Place} → r ≡ Ok p → CallsOn d b w l n p.0

abbrev pub Addresses : Desk → List ℕ → ℕ → Result Place Refusal → Type 0
Addresses d b n r = (w l : List ℕ) → Stands d b w l → Addressed d b w l n r

-- a refusal that is handed on is the same
pub handed_on : {A : Type 0} {r : Result A Refusal} {e : Refusal} → IsErrAnd r (λ f. f ≡ e) → r ≡ Err e
handed_on {r = Ok x} z = absurd z
handed_on {r = Err f} z = ap Err z

-- a refusal has a code, which is not 0
pub refused_not : (e : Refusal) → refusal_code e ≡ 0 → ⊥
refused_not Idle z = absurd (omega arith)
refused_not NoNumber z = absurd (omega arith)
refused_not OwnNumber z = absurd (omega arith)
refused_not NotLive z = absurd (omega arith)
refused_not NotAwaiting z = absurd (omega arith)
refused_not Full z = absurd (omega arith)

not_ok : {A : Type 0} {e : Refusal} {x : A} → ◌≡◌ {A = Result A Refusal} (Err e) (Ok x) → ⊥
not_ok {e = e} z = refused_not e (ap code_in z)

not_err : {A : Type 0} {e : Refusal} {x : A} → ◌≡◌ {A = Result A Refusal} (Ok x) (Err e) → ⊥
not_err {e = e} z = refused_not e (sym (ap code_in z))

same_ok : {p q : Place} → ◌≡◌ {A = Result Place Refusal} (Ok p) (Ok q) → p ≡ q
same_ok z = grind arith

module _ {A : Type 0} {d : Desk} {b : List ℕ} (n : ℕ) {r : Result A Refusal} (e : Names d b n r) where
  pub addresses_not : {f : Refusal} → r ≡ Err f → Addresses d b n (Err f)
  addresses_not {f} z w l k = record {
    not = λ y x. naming_not (shown d b w l) n (refusal_code f) _ (ap code_in (sym z) ∙ e w l k) (refused_not f) ∙ ap code_in y;
    past = λ y. absurd (not_ok y);
    calls = λ y. absurd (not_ok y);
  }

  module _ {x : A} (z : r ≡ Ok x) where
    named : (w l : List ℕ) → Stands d b w l → naming (shown d b w l) n 0 ≡ 0
    named w l k = sym (e w l k) ∙ ap code_in z

    there : (w l : List ℕ) → place_of (shown d b w l) n ≡ found b n
    there w l = found_is d.last.0 d.running.0 n b w l

    behind_4 : (w l : List ℕ) → Stands d b w l → (x : ℕ) → addressing (shown d b w l) n x ≡ cond (eqb (found b n) none) 4 x
    behind_4 w l k x = naming_past (shown d b w l) n _ (named w l k) ∙ ap (λ (q : ℕ). cond (not (not (eqb q none))) 4 x) (there w l) ∙ twice (eqb (found b n) none)
      where
        twice : (t : Bool) → cond (not (not t)) 4 x ≡ cond t 4 x
        twice true = refl
        twice false = refl

    addresses_4 : found b n ≡ none → Addresses d b n (Err NotLive)
    addresses_4 y w l k = record { not = λ v x. behind_4 w l k x ∙ rw y (ap code_in v); past = λ v. absurd (not_ok v); calls = λ v. absurd (not_ok v) }

    addresses_0 : {p : Place} → p.0 ≡ found b n → (found b n ≡ none → ⊥) → Addresses d b n (Ok p)
    addresses_0 {p} f y w l k = record {
      not = λ v. absurd (not_err v);
      past = λ _ x. behind_4 w l k x ∙ rw (ne_eqb (found b n) none y);
      calls = λ v. record {
        stands = k;
        busy = naming_busy (shown d b w l) n (named w l k);
        at = there w l ∙ sym f ∙ ap (λ (q : Place). q.0) (same_ok v);
        known = λ u. y (sym f ∙ ap (λ (q : Place). q.0) (same_ok v) ∙ u);
      };
    }

    pub addresses : {o : Option Place} → o ≡ place_known (found b n) → Addresses d b n (ok_or o NotLive)
    addresses {o = None} f = addresses_4 (place_none f refl)
    addresses {o = Some p} f = let h = place_some f refl in addresses_0 h.0 h.1

-- ---- where it lives

pub met_place : {d : Desk} {b w l : List ℕ} {n p : ℕ} → CallsOn d b w l n p → p < places
met_place {d} {b} {w} {l} {n} {p} k =
    let m = shown d b w l in
    subst (λ (x : ℕ). x < places) k.at (small m (sounds k.stands) (place_of m n) (placed m n (λ z. k.known (sym k.at ∙ z))).0)
