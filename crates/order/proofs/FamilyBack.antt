-- The end of a family: nothing enters ready except at the back. After it, ready is what stays of it, in its order, and behind that those who join; and
-- nobody leaves ready and joins it again, since who leaves is gone.
use Rattle.std.specs.Prelude.{ℕ, ◌≡◌, refl, List, [], ◌∷◌, ◌++◌, true, false, not, eqb}
use Rattle.std.proofs.Common.{sym, ap, ◌∙◌, append_assoc, append-nil, eqb-true}
use Rattle.std.proofs.Math.Decide.{ℕ_discrete}
use Rattle.lists.specs.Lists.{among}
use Rattle.lists.specs.Laws.{by_test, never, is_tail, is_right, not_append}
use Rattle.lists.specs.Counts.{among_some}
use Rattle.kin.specs.Carried.{chained}
use Rattle.rules.specs.Model.{places, Empty, Ready, Thread, Model, ready, thread, line, lives_at, all_places}
use Rattle.rules.specs.Rules.{child_of, end_one}
use Rattle.rules.specs.Consistent.{above}
use Rattle.order.specs.Sound.{Sound, member}
use Rattle.order.specs.Stood.{stands_in, stands_live}
use Rattle.order.specs.Places.{lives_at_lem, at_lives}
use Rattle.order.specs.EndOne.{one_ends, ends}
use Rattle.order.specs.EndFamily.{Dropped}
use Rattle.order.specs.Grown.{Remains, Grown}
use Rattle.order.proofs.Grown.{remains_all, end_grown}
use Rattle.order.specs.Grown.Remains.{nothing, stays, goes}
use Rattle.order.specs.FamilyBack.{Split, Onward}

-- ---- what remains of what remains
remains_then : {a b c : List ℕ} → Remains a b → Remains b c → Remains a c
remains_then nothing s = s
remains_then (stays r) (stays s) = stays (remains_then r s)
remains_then (stays r) (goes s) = goes (remains_then r s)
remains_then (goes r) s = goes (remains_then r s)

remains_in : (p : ℕ) {a b : List ℕ} → Remains a b → among p b ≡ true → among p a ≡ true
remains_in p nothing h = h
remains_in p (stays {p = x} {old = old} r) h = let ih = remains_in p r in by_test (eqb x p) (λ e. rw e) (λ e. rw e (ih (rw e at h)))
remains_in p (goes {p = x} {old = old} r) h = is_tail p x old (remains_in p r h)

split : (xs ys : List ℕ) {zs : List ℕ} → Remains (xs ++ ys) zs → Split xs ys zs
split [] ys {zs} r = record { fore = []; aft = zs; both = refl; left = nothing; right = r }
split (x ∷ xs) ys (stays r) = let S = split xs ys r in record { fore = x ∷ S.fore; aft = S.aft; both = ap (λ (l : List ℕ). x ∷ l) S.both; left = stays S.left; right = S.right }
split (x ∷ xs) ys (goes r) = let S = split xs ys r in record { fore = S.fore; aft = S.aft; both = S.both; left = goes S.left; right = S.right }

-- a list that has grown twice, where nobody who left came back
grown_then : (a b c : List ℕ) → ((p : ℕ) → among p a ≡ true → among p b ≡ false → among p c ≡ false) → Grown a b → Grown b c → Grown a c
grown_then a b c apart F G =
    let S = split F.kept F.joined (rw F.behind at G.remains) in
    record {
      kept = S.fore;
      joined = S.aft ++ G.joined;
      remains = remains_then F.remains S.left;
      behind = G.behind ∙ ap (λ (l : List ℕ). l ++ G.joined) S.both ∙ append_assoc S.fore S.aft G.joined;
      newcomers = λ p h.
          by_test (among p S.aft)
          (λ t. F.newcomers p (remains_in p S.right t))
          (λ t.
          let j : among p G.joined ≡ true = by_test (among p G.joined) (λ u. u) (λ u. never h (not_append p S.aft G.joined t u)) in
          let i : among p c ≡ true = rw G.behind (is_right p G.kept G.joined j) in
          by_test (among p a) (λ u. never i (apart p u (G.newcomers p j))) (λ u. u));
    }

onward_self : (m : Model) → Sound m → Onward m m
onward_self m S = record {
  grown = record { kept = line m ready; joined = []; remains = remains_all (line m ready); behind = sym (append-nil (line m ready)); newcomers = λ p h. never h refl };
  fewer = λ r h. h;
  dropped = λ r h g. never h g;
}

onward_then : (a b c : Model) → Sound a → Sound b → Sound c → Onward a b → Onward b c → Onward a c
onward_then a b c Sa Sb Sc F G = record {
  grown = grown_then (line a ready) (line b ready) (line c ready)
      (λ p h g. by_test (among p (line c ready))
      (λ t. never (G.fewer p (at_lives c p (stands_live c Sc p ready t))) (F.dropped p h g))
      (λ t. t))
      F.grown G.grown;
  fewer = λ r h. F.fewer r (G.fewer r h);
  dropped = λ r h g.
      by_test (among r (line b ready))
      (λ t. G.dropped r t g)
      (λ t. by_test (lives_at c r) (λ u. never (G.fewer r u) (F.dropped r h t)) (λ u. u));
}

one_onward : (m : Model) → Sound m → (p : ℕ) → lives_at m p ≡ true → Onward m (end_one p m)
one_onward m S p h =
    let W = one_ends m S p h in
    let k = end_one p m in
    let off : lives_at k p ≡ false = ap (λ (t : Thread). not (eqb t.standing Empty)) W.own in
    record {
      grown = end_grown m S p (thread m p).number (lives_at_lem m p h) refl;
      fewer = λ r g. elim (ℕ_discrete r p) [ yes z ↦ rw z h | no z ↦ sym (W.lives r z) ∙ g ];
      dropped = λ r i g. elim (ℕ_discrete r p) [
        | yes z ↦ rw z off
        | no z ↦
            let st : (thread m r).standing ≡ Ready = eqb-true _ _ (member m S r ready (among_some r (line m ready) i)) in
            let v = (W.waits r z st).0 in
            never (stands_in k W.sound r ready (rw (v, st))) g
      ];
    }

-- ---- the theorem
pub family_back : (m k : Model) (p : ℕ) → Sound m → Dropped m p k → Grown (line m ready) (line k ready)
family_back m k p S D = (chained Sound lives_at above end_one places all_places child_of ends Onward onward_self onward_then one_onward D.turns.0 m k S D.turns.1).1.grown
