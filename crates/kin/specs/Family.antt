-- A thread and all that it started end together. Any nucleus M, and any way to end one thread that meets the laws `EndLaws`: nothing here knows what else
-- an end does.
use Rattle.std.specs.Prelude.{◌≡◌, refl, ◌≢◌, List, [], ◌∷◌, ◌++◌, Bool, true, false, ℕ, zero, suc, ◌≤◌, ◌<◌, eqb}
use Rattle.std.proofs.Common.{sym, ap, ◌∙◌, arith, eqb-true}
use Rattle.std.proofs.Math.Decide.{ℕ_discrete}
use Rattle.lists.specs.Lists.{none, among, Distinct, tally, only}
use Rattle.lists.specs.Laws.{by_test, never, is_head, is_tail}
use Rattle.lists.specs.Only.{only_out, only_in, only_distinct}
use Rattle.kin.specs.Climb.{climb, climb_last, climb_none, climb_past, no_return, climb_same, short}
use Rattle.kin.specs.Turns.{in_turn, asked, only_same}

-- ---- the laws

-- Good is what an end asks for and keeps. Who lives, by place; the place above a place, its parent's, or none; the n places, in a list; is the thread at a
-- second place a child of that at a first; and the end of one thread.
pub record EndLaws {M : Type 0} (Good : M → Type 0) (lives : M → ℕ → Bool) (above : M → ℕ → ℕ) (one : ℕ → M → M) (n : ℕ) (all : List ℕ) (child : M → ℕ → ℕ → Bool) : Type 0 where
  -- a live thread stands at one of n places, each listed once; and none is no place
  pub small : (m : M) → Good m → (r : ℕ) → lives m r ≡ true → r < n
  pub listed : (r : ℕ) → r < n → among r all ≡ true
  pub once : Distinct all
  pub nowhere : n ≤ none
  -- nothing is above none, and who is above lives
  pub top : (m : M) → Good m → above m none ≡ none
  pub up : (m : M) → Good m → (r : ℕ) → above m r ≢ none → lives m (above m r) ≡ true
  -- the children of a live thread are those whom it is above
  pub kid : (m : M) → Good m → (p r : ℕ) → lives m p ≡ true → child m p r ≡ true → (lives m r ≡ true) × (above m r ≡ p)
  pub kid_in : (m : M) → Good m → (p r : ℕ) → lives m p ≡ true → lives m r ≡ true → above m r ≡ p → child m p r ≡ true
  -- one live thread ends: it is gone, every other lives on, and has the same above it unless that is the one that ended
  pub good : (m : M) → Good m → (p : ℕ) → lives m p ≡ true → Good (one p m)
  pub out : (m : M) → Good m → (p : ℕ) → lives m p ≡ true → lives (one p m) p ≡ false
  pub others : (m : M) → Good m → (p : ℕ) → lives m p ≡ true → (r : ℕ) → r ≢ p → lives (one p m) r ≡ lives m r
  pub aboves : (m : M) → Good m → (p : ℕ) → lives m p ≡ true → (r : ℕ) → r ≢ p → lives m r ≡ true → above m r ≢ p → above (one p m) r ≡ above m r

module _ {M : Type 0} (Good : M → Type 0) (lives : M → ℕ → Bool) (above : M → ℕ → ℕ) (one : ℕ → M → M) where
  -- ---- the words

  -- no ring: from parent to parent one comes to none
  abbrev pub Rooted : M → Type 0
  Rooted m = (r : ℕ) → lives m r ≡ true → (k : ℕ) × (climb (above m) k r ≡ none)

  -- the thread at p can be ended with its family: it lives, there is no ring, and fewer steps than the depth d lead up to p
  pub record Able (d p : ℕ) (m : M) : Type 0 where
    pub good : Good m
    pub rooted : Rooted m
    pub here : lives m p ≡ true
    pub deep : (r j : ℕ) → lives m r ≡ true → climb (above m) j r ≡ p → j < d

  -- whoever lives in k lived in m, and has the same above it
  pub record Fewer (m k : M) : Type 0 where
    pub good : Good k
    pub fewer : (r : ℕ) → lives k r ≡ true → lives m r ≡ true
    pub aboves : (r : ℕ) → lives k r ≡ true → above k r ≡ above m r

  -- k is m after the ends of the places of a list, one after another, each of a thread that lives when its turn comes
  abbrev pub OneByOne : List ℕ → M → M → Type 0
  OneByOne [] m k = k ≡ m
  OneByOne (q ∷ l) m k = (lives m q ≡ true) × OneByOne l (one q m) k

  -- k is m without p and those from whom parents lead to p
  pub record Gone (m : M) (p : ℕ) (k : M) : Type 0 where
    pub less : Fewer m k
    pub out : lives k p ≡ false
    pub only : (r : ℕ) → lives m r ≡ true → lives k r ≡ false → (j : ℕ) × (climb (above m) j r ≡ p)
    pub turns : (l : List ℕ) × OneByOne l m k

  -- k is m without the families of l, which are below p
  pub record Swept (m : M) (p : ℕ) (l : List ℕ) (k : M) : Type 0 where
    pub less : Fewer m k
    pub out : (q : ℕ) → among q l ≡ true → lives k q ≡ false
    pub only : (r : ℕ) → lives m r ≡ true → lives k r ≡ false → (j : ℕ) × (climb (above m) (suc j) r ≡ p)
    pub turns : (s : List ℕ) × OneByOne s m k

  -- those of l live, and p is above them
  abbrev Kids : M → ℕ → List ℕ → Type 0
  Kids m p l = (q : ℕ) → among q l ≡ true → (lives m q ≡ true) × (above m q ≡ p)

  less_self : (m : M) → Good m → Fewer m m
  less_self m G = record { good = G; fewer = λ r h. h; aboves = λ r h. refl }

  less_then : (m a b : M) → Fewer m a → Fewer a b → Fewer m b
  less_then m a b F G = record {
    good = G.good;
    fewer = λ r h. F.fewer r (G.fewer r h);
    aboves = λ r h. G.aboves r h ∙ F.aboves r (G.fewer r h);
  }

  turns_then : (l s : List ℕ) (m k z : M) → OneByOne l m k → OneByOne s k z → OneByOne (l ++ s) m z
  turns_then [] s m k z e t = rw e at t
  turns_then (q ∷ l) s m k z h t = (h.0, turns_then l s (one q m) k z h.1 t)

  module _ (n : ℕ) (all : List ℕ) (child : M → ℕ → ℕ → Bool) (E : EndLaws Good lives above one n all child) where
    -- ---- walks

    not_none : (m : M) → Good m → (r : ℕ) → lives m r ≡ true → r ≢ none
    not_none m G r h e = let a = E.small m G r h in let b = E.nowhere in omega arith

    -- whoever lives walks as it did, among those who live
    walks : (m k : M) → Good m → Fewer m k → (j r : ℕ) → lives k r ≡ true → climb (above m) j r ≡ climb (above k) j r
    walks m k G F = climb_same (above k) (E.top k F.good) (above m) (lives k) (E.top m G) (λ r h. sym (F.aboves r h)) (λ r h. E.up k F.good r)

    walks_live : (m : M) → Good m → (j r : ℕ) → lives m r ≡ true → climb (above m) j r ≢ none → lives m (climb (above m) j r) ≡ true
    walks_live m G zero r h k = h
    walks_live m G (suc j) r h k = walks_live m G j (above m r) (E.up m G r (λ e. k (ap (climb (above m) j) e ∙ climb_none (above m) (E.top m G) j))) k

    never_back : (m : M) → Good m → Rooted m → (r j : ℕ) → lives m r ≡ true → climb (above m) (suc j) r ≢ r
    never_back m G R r j h = let w = R r h in no_return (above m) (E.top m G) w.0 j r (not_none m G r h) w.1

    -- one step more, from a child to its parent
    further : (m : M) (p q r j : ℕ) → above m q ≡ p → climb (above m) j r ≡ q → climb (above m) (suc j) r ≡ p
    further m p q r j e f = climb_last (above m) j r ∙ ap (above m) f ∙ e

    rooted_less : (m k : M) → Good m → Fewer m k → Rooted m → Rooted k
    rooted_less m k G F R r h = let w = R r (F.fewer r h) in (w.0, sym (walks m k G F w.0 r h) ∙ w.1)

    -- a walk passes no place twice: so it takes fewer steps than there are live threads
    walk_short : (m : M) → Good m → Rooted m → (r j : ℕ) → lives m r ≡ true → climb (above m) j r ≢ none → j < tally n (lives m)
    walk_short m G R r j h z = short (above m) n j (lives m) r (λ q. E.small m G q) (λ q i g. never_back m G R q i g)
        (λ i g. walks_live m G i r h (λ e. z (climb_past (above m) (E.top m G) i j r g e)))

    -- ---- who can be ended with its family

    -- with the live count as depth, any live thread
    pub able : (m : M) → Good m → Rooted m → (p : ℕ) → lives m p ≡ true → Able (tally n (lives m)) p m
    able m G R p L = record { good = G; rooted = R; here = L; deep = λ r j h e. walk_short m G R r j h (λ z. not_none m G p L (sym e ∙ z)) }

    pub able_more : (d e p : ℕ) (m : M) → d ≤ e → Able d p m → Able e p m
    able_more d e p m h A = record { good = A.good; rooted = A.rooted; here = A.here; deep = λ r j g f. let i = A.deep r j g f in omega arith }

    pub able_none : (p : ℕ) (m : M) → Able 0 p m → ⊥
    able_none p m A = let h = A.deep p 0 A.here refl in omega arith

    -- a child, with one less
    pub able_child : (d p q : ℕ) (m : M) → Able (suc d) p m → lives m q ≡ true → above m q ≡ p → Able d q m
    able_child d p q m A L e =
        record { good = A.good; rooted = A.rooted; here = L; deep = λ r j h f. let i = A.deep r (suc j) h (further m p q r j e f) in omega arith }

    -- while the family of a child q goes, its parent and the other children stay
    module _ (d p q : ℕ) (m : M) (A : Able d p m) (e : above m q ≡ p) (k : M) (F : Gone m q k) where
      pub able_after : Able d p k
      able_after = record {
        good = F.less.good;
        rooted = rooted_less m k A.good F.less A.rooted;
        here = by_test (lives k p) (λ t. t)
            (λ t. let w = F.only p A.here t in absurd (never_back m A.good A.rooted p w.0 A.here (further m p q p w.0 e w.1)));
        deep = λ r j h f. A.deep r j (F.less.fewer r h) (walks m k A.good F.less j r h ∙ f);
      }

      stays : (r : ℕ) → lives m r ≡ true → above m r ≡ p → q ≢ r → lives k r ≡ true
      stays r h f z = by_test (lives k r) (λ t. t) (λ t. let w = F.only r h t in absurd (leads w.0 w.1))
        where
          leads : (j : ℕ) → climb (above m) j r ≡ q → ⊥
          leads zero g = z (sym g)
          leads (suc j) g = never_back m A.good A.rooted p j A.here (further m p q p j e (ap (climb (above m) j) (sym f) ∙ g))

      kids_stay : (l : List ℕ) → Kids m p l → among q l ≡ false → Kids k p l
      kids_stay l K o r h =
          let w = K r h in
          let s = stays r w.0 w.1 (λ z. never h (rw z at o)) in
          (s, F.less.aboves r s ∙ w.1)

      -- who else is a child stays one, and nobody becomes one
      pub child_same : (r : ℕ) → q ≢ r → child k p r ≡ child m p r
      child_same r z =
          by_test (child m p r)
          (λ t.
          let w = E.kid m A.good p r A.here t in
          let s = stays r w.0 w.1 z in
          E.kid_in k F.less.good p r able_after.here s (F.less.aboves r s ∙ w.1) ∙ sym t)
          (λ t. by_test (child k p r)
          (λ u.
          let w = E.kid k F.less.good p r able_after.here u in
          never (E.kid_in m A.good p r A.here (F.less.fewer r w.0) (sym (F.less.aboves r w.0) ∙ w.1)) t)
          (λ u. u ∙ sym t))

    -- ---- the families of the children, one after another, then the parent

    -- the family of a first child, then those of the others
    swept_then : (m : M) (p q : ℕ) (l : List ℕ) (k z : M) → Good m → above m q ≡ p → Gone m q k → Swept k p l z → Swept m p (q ∷ l) z
    swept_then m p q l k z G e F S = record {
      less = less_then m k z F.less S.less;
      out = λ r h. by_test (eqb q r)
          (λ t. by_test (lives z r) (λ u. never (S.less.fewer r u) (rw (eqb-true q r t) at F.out)) (λ u. u))
          (λ t. S.out r (rw t at h));
      only = λ r h g. by_test (lives k r)
          (λ t. let w = S.only r t g in (w.0, walks m k G F.less (suc w.0) r t ∙ w.1))
          (λ t. let w = F.only r h t in (w.0, further m p q r w.0 e w.1));
      turns = (F.turns.0 ++ S.turns.0, turns_then F.turns.0 S.turns.0 m k z F.turns.1 S.turns.1);
    }

    -- the children of p, by the order of the list of places
    abbrev kids : M → ℕ → List ℕ
    kids m p = only (child m p) all

    kids_are : (d p : ℕ) (m : M) → Able d p m → Kids m p (kids m p)
    kids_are d p m A r a = E.kid m A.good p r A.here (by_test (child m p r) (λ t. t) (λ t. never a (only_out (child m p) r all t)))

    -- the parent last: nobody whom it is above is left
    module _ (d p : ℕ) (m : M) (A : Able d p m) (k : M) (S : Swept m p (kids m p) k) where
      till_last : lives k p ≡ true
      till_last = by_test (lives k p) (λ t. t) (λ t. let w = S.only p A.here t in absurd (never_back m A.good A.rooted p w.0 A.here w.1))

      childless : (r : ℕ) → lives k r ≡ true → above k r ≢ p
      childless r h e =
          let g = S.less.fewer r h in
          let c = E.kid_in m A.good p r A.here g (sym (S.less.aboves r h) ∙ e) in
          never h (S.out r (only_in (child m p) r all c (E.listed r (E.small m A.good r g))))

      stayed : (r : ℕ) → lives (one p k) r ≡ true → (r ≢ p) × (lives k r ≡ true)
      stayed r h =
          let ne : r ≢ p = λ z. never h (ap (lives (one p k)) z ∙ E.out k S.less.good p till_last) in
          (ne, sym (E.others k S.less.good p till_last r ne) ∙ h)

      finish : Gone m p (one p k)
      finish = record {
        less = less_then m k (one p k) S.less (record {
          good = E.good k S.less.good p till_last;
          fewer = λ r h. (stayed r h).1;
          aboves = λ r h. let w = stayed r h in E.aboves k S.less.good p till_last r w.0 w.1 (childless r w.1);
        });
        out = E.out k S.less.good p till_last;
        only = λ r h g. elim (ℕ_discrete r p) [
          | yes z ↦ (0, z)
          | no z ↦ let w = S.only r h (sym (E.others k S.less.good p till_last r z) ∙ g) in (suc w.0, w.1)
        ];
        turns = (S.turns.0 ++ (p ∷ []), turns_then S.turns.0 (p ∷ []) m k (one p k) S.turns.1 (till_last, refl));
      }

    -- ---- down: any function that goes down through the children and ends the parent last, as long as there is depth left. (What it does with none
    -- left does not matter: that is never come to.)
    module _ (down : ℕ → ℕ → M → M) (step : (d p : ℕ) (m : M) → down (suc d) p m ≡ one p (in_turn (down d) (only (child m p) all) m)) where
      -- what is shown of each depth
      abbrev Works : ℕ → Type 0
      Works d = (p : ℕ) (m : M) → Able d p m → Gone m p (down d p m)

      sweeps : (d : ℕ) → Works d → (p : ℕ) (l : List ℕ) (m : M) → Able (suc d) p m → Kids m p l → Distinct l → Swept m p l (in_turn (down d) l m)
      sweeps d W p [] m A K o = record { less = less_self m A.good; out = λ q h. never h refl; only = λ r h g. never h g; turns = ([], refl) }
      sweeps d W p (q ∷ l) m A K o =
          let v = K q (is_head q q l refl) in
          let k = down d q m in
          let F = W q m (able_child d p q m A v.0 v.1) in
          let S = sweeps d W p l k (able_after (suc d) p q m A v.1 k F) (kids_stay (suc d) p q m A v.1 k F l (λ r h. K r (is_tail r q l h)) o.0) o.1 in
          swept_then m p q l k (in_turn (down d) l k) A.good v.1 F S

      pub ends : (d : ℕ) → Works d
      ends zero p m A = absurd (able_none p m A)
      ends (suc d) p m A = rw (step d p m) (finish (suc d) p m A _ (sweeps d (ends d) p (kids m p) m A (kids_are (suc d) p m A) (only_distinct (child m p) all E.once)))

      -- ---- two depths that are both enough give the same
      abbrev Agree : ℕ → ℕ → Type 0
      Agree d e = (p : ℕ) (m : M) → Able d p m → Able e p m → down d p m ≡ down e p m

      agree_turns : (d e : ℕ) → Agree d e → (p : ℕ) (l : List ℕ) (m : M) → Able (suc d) p m → Able (suc e) p m → Kids m p l → Distinct l → in_turn (down d) l m ≡ in_turn (down e) l m
      agree_turns d e W p [] m A B K o = refl
      agree_turns d e W p (q ∷ l) m A B K o =
          let v = K q (is_head q q l refl) in
          let k = down d q m in
          let A' = able_child d p q m A v.0 v.1 in
          let F = ends d q m A' in
          let ih = agree_turns d e W p l k (able_after (suc d) p q m A v.1 k F) (able_after (suc e) p q m B v.1 k F)
          (kids_stay (suc d) p q m A v.1 k F l (λ r h. K r (is_tail r q l h)) o.0) o.1 in
          ih ∙ ap (in_turn (down e) l) (W q m A' (able_child e p q m B v.0 v.1))

      agree : (d e : ℕ) → Agree d e
      agree zero e p m A B = absurd (able_none p m A)
      agree (suc d) zero p m A B = absurd (able_none p m B)
      agree (suc d) (suc e) p m A B =
          step d p m ∙ ap (one p) (agree_turns d e (agree d e) p (kids m p) m A B (kids_are (suc d) p m A) (only_distinct (child m p) all E.once)) ∙ sym (step e p m)

      -- with the live count as depth no family is cut off: any larger depth gives the same
      pub deep_enough : (m : M) → Good m → Rooted m → (p : ℕ) → lives m p ≡ true → (d : ℕ) → tally n (lives m) ≤ d → down d p m ≡ down (tally n (lives m)) p m
      deep_enough m G R p L d h = let A = able m G R p L in agree d (tally n (lives m)) p m (able_more (tally n (lives m)) d p m h A) A

      -- ---- as code goes: place by place, asking of each whether it is a child now
      pub as_it_goes : (d p : ℕ) (l : List ℕ) (m : M) → Able (suc d) p m → Distinct l → asked (λ k r. child k p r) (down d) l m ≡ in_turn (down d) (only (child m p) l) m
      as_it_goes d p [] m A o = refl
      as_it_goes d p (q ∷ l) m A o =
          let ih = as_it_goes d p l in
          by_test (child m p q)
          (λ t.
          let v = E.kid m A.good p q A.here t in
          let k = down d q m in
          let F = ends d q m (able_child d p q m A v.0 v.1) in
          rw t (ih k (able_after (suc d) p q m A v.1 k F) o.1
          ∙ ap (λ (s : List ℕ). in_turn (down d) s k) (only_same (child k p) (child m p) q l o.0 (child_same (suc d) p q m A v.1 k F))))
          (λ t. rw t (ih m A o.1))

    -- ---- what it is to be gone

    -- all those are from whom parents lead to p
    pub all_gone : (m : M) → Good m → (p : ℕ) → lives m p ≡ true → (k : M) → Gone m p k → (r j : ℕ) → lives m r ≡ true → climb (above m) j r ≡ p → lives k r ≡ false
    all_gone m G p L k F r j h e =
        by_test (lives k r)
        (λ t.
        let w : climb (above k) j r ≡ p = sym (walks m k G F.less j r t) ∙ e in
        let v = walks_live k F.less.good j r t (λ z. not_none m G p L (sym w ∙ z)) in
        never v (ap (lives k) w ∙ F.out))
        (λ t. t)

    -- there is no ring afterwards
    pub rooted_gone : (m : M) → Good m → Rooted m → (p : ℕ) (k : M) → Gone m p k → Rooted k
    rooted_gone m G R p k F = rooted_less m k G F.less R
