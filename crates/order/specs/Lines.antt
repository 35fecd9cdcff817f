-- The four ways in which the lines change when one place moves: it stays, joins a line, leaves one, or passes from one to another.
-- Each says where everybody stands afterwards, and that nobody who is ready has more ahead than before.
use Rattle.std.specs.Prelude.{ℕ, suc, ◌+◌, ◌≤◌, ◌<◌, ◌≡◌, refl, ◌≢◌, List, [], ◌∷◌, ◌++◌, Bool, true, false, cond, length, get_or, set, eqb}
use Rattle.std.proofs.Common.{sym, ap, ◌∙◌, arith, length-set, get_or-set_same, get_or-set_other, eq-eqb, ne_eqb}
use Rattle.std.proofs.Math.Decide.{ℕ_discrete}
use Rattle.lists.specs.Lists.{bit, count, without}
use Rattle.lists.specs.Counts.{count_append, count_self, count_past, without_past, without_self}
use Rattle.rules.specs.Model.{line_count, Thread, Model, thread, line}
use Rattle.rules.specs.Consistent.{belongs}
use Rattle.order.specs.Sound.{Sound}
use Rattle.order.specs.Ahead.{ahead, ahead_past, ahead_append, ahead_without}

-- a line of which p's part is gone, or put at the back: the others stand in it as often, and with no more ahead
pub record Spared (p : ℕ) (l k : List ℕ) : Type 0 where
  pub others : (s : ℕ) → s ≢ p → count s l ≡ count s k
  pub order : (s : ℕ) → s ≢ p → 1 ≤ count s k → ahead s l ≤ ahead s k

-- the lines are ls: p stands f q times in line q, and everybody else as before
pub record Counts (m : Model) (p : ℕ) (ls : List (List ℕ)) (f : ℕ → ℕ) : Type 0 where
  pub lines : length ls ≡ line_count
  pub spared : (q : ℕ) → Spared p (get_or ls q []) (line m q)
  pub own : (q : ℕ) → count p (get_or ls q []) ≡ f q

-- the same, where p holds the thread t
abbrev pub Shift : (m : Model) (p : ℕ) (t : Thread) (ls : List (List ℕ)) → Type 0
Shift m p t ls = Counts m p ls (λ q. bit (belongs m t q))

-- ---- one line

spared_same : (p : ℕ) (l : List ℕ) → Spared p l l
spared_same p l = record { others = λ s n. refl; order = λ s n h. omega arith }

spared_twice : (p : ℕ) (l k j : List ℕ) → Spared p l k → Spared p k j → Spared p l j
spared_twice p l k j a b = record {
  others = λ s n. a.others s n ∙ b.others s n;
  order = λ s n h. let e = b.others s n in let x = a.order s n (omega arith) in let y = b.order s n h in omega arith;
}

spared_back : (p : ℕ) (l : List ℕ) → Spared p (l ++ (p ∷ [])) l
spared_back p l = record {
  others = λ s n. count_append s l (p ∷ []) ∙ rw (count_past s p [] n) (omega arith);
  order = λ s n h. let e = ahead_append s l (p ∷ []) h in omega arith;
}

-- l is line q without p
pub record Drops (m : Model) (p q : ℕ) (l : List ℕ) : Type 0 where
  pub spared : Spared p l (line m q)
  pub own : suc (count p l) ≡ count p (line m q)

pub drops_front : (m : Model) (p q : ℕ) (l : List ℕ) → line m q ≡ p ∷ l → Drops m p q l
drops_front m p q l e = record {
  spared = record {
    others = λ s n. rw (e, count_past s p l n);
    order = λ s n h. rw (e, ahead_past s p l (λ z. n (sym z))) (omega arith);
  };
  own = rw (e, count_self p l);
}

pub drops_without : (m : Model) (p q : ℕ) → 1 ≤ count p (line m q) → Drops m p q (without p (line m q))
drops_without m p q h = record {
  spared = record { others = λ s n. without_past s p (line m q) n; order = λ s n _. ahead_without s p (line m q) (λ z. n (sym z)) };
  own = without_self p (line m q) h;
}

-- ---- all of them

module _ (m : Model) (p : ℕ) (ls : List (List ℕ)) (f : ℕ → ℕ) (C : Counts m p ls f) (q : ℕ) (h : q < line_count) where
  within : q < length ls
  within = omega (arith, C.lines)

  rewritten : (l : List ℕ) → Spared p l (get_or ls q []) → Counts m p (set ls q l) (λ r. cond (eqb r q) (count p l) (f r))
  rewritten l e = record {
    lines = length-set ls q l ∙ C.lines;
    spared = λ r. elim (ℕ_discrete r q) [
      | yes k ↦ rw (k, get_or-set_same ls q l [] within) (spared_twice p l (get_or ls q []) (line m q) e (C.spared q))
      | no k ↦ rw (get_or-set_other ls q r l [] k) (C.spared r)
    ];
    own = λ r. elim (ℕ_discrete r q) [
      | yes k ↦ rw (k, get_or-set_same ls q l [] within, eq-eqb q q refl)
      | no k ↦ rw (get_or-set_other ls q r l [] k, ne_eqb r q k) (C.own r)
    ];
  }

  joined : Counts m p (set ls q (get_or ls q [] ++ (p ∷ []))) (λ r. f r + bit (eqb r q))
  joined =
      let D = rewritten (get_or ls q [] ++ (p ∷ [])) (spared_back p (get_or ls q [])) in
      record {
        lines = D.lines;
        spared = D.spared;
        own = λ r. D.own r ∙ elim (ℕ_discrete r q) [
          | yes k ↦ rw (k, eq-eqb q q refl, count_append p (get_or ls q []) (p ∷ []), C.own q, count_self p [])
          | no k ↦ rw (ne_eqb r q k) (omega arith)
        ];
      }

nothing : (b : Bool) → cond b 0 (bit b) ≡ 0
nothing true = refl
nothing false = refl

module _ (m : Model) (S : Sound m) (p : ℕ) (t : Thread) where
  untouched : Counts m p m.lines (λ q. bit (belongs m (thread m p) q))
  untouched = record { lines = S.lines; spared = λ q. spared_same p (line m q); own = S.stood p }

  pub stays : ((q : ℕ) → belongs m t q ≡ belongs m (thread m p) q) → Shift m p t m.lines
  stays e = record { lines = S.lines; spared = untouched.spared; own = λ q. S.stood p q ∙ ap bit (sym (e q)) }

  pub joins : (q : ℕ) → q < line_count → ((r : ℕ) → belongs m (thread m p) r ≡ false) → ((r : ℕ) → belongs m t r ≡ eqb r q)
      → Shift m p t (set m.lines q (line m q ++ (p ∷ [])))
  joins q h a b =
      let C = joined m p m.lines (λ q. bit (belongs m (thread m p) q)) untouched q h in
      record { lines = C.lines; spared = C.spared; own = λ r. C.own r ∙ rw (a r, b r) (omega arith) }

  -- p leaves line q, where it stood and nowhere else
  module _ (q : ℕ) (h : q < line_count) (l : List ℕ) (D : Drops m p q l) (a : (r : ℕ) → belongs m (thread m p) r ≡ eqb r q) where
    gone : count p l ≡ 0
    gone =
        let i : count p (line m q) ≡ bit (eqb q q) = S.stood p q ∙ ap bit (a q) in
        let j : count p (line m q) ≡ 1 = rw (eq-eqb q q refl) at i in
        omega (arith, D.own)

    dropped : Counts m p (set m.lines q l) (λ r. 0)
    dropped =
        let C = rewritten m p m.lines (λ q. bit (belongs m (thread m p) q)) untouched q h l D.spared in
        record { lines = C.lines; spared = C.spared; own = λ r. C.own r ∙ rw (gone, a r) (nothing (eqb r q)) }

    pub leaves : ((r : ℕ) → belongs m t r ≡ false) → Shift m p t (set m.lines q l)
    leaves b = record { lines = dropped.lines; spared = dropped.spared; own = λ r. dropped.own r ∙ rw (b r) }

    pub passes : (k : ℕ) → k < line_count → ((r : ℕ) → belongs m t r ≡ eqb r k)
        → Shift m p t (set (set m.lines q l) k (get_or (set m.lines q l) k [] ++ (p ∷ [])))
    passes k i b =
        let C = joined m p (set m.lines q l) (λ r. 0) dropped k i in
        record { lines = C.lines; spared = C.spared; own = λ r. C.own r ∙ rw (b r) (omega arith) }

-- the line q after p has left it, and joined line k
pub tail_line : (m : Model) → Sound m → (p q k : ℕ) (l : List ℕ) → q < line_count → q ≢ k → get_or (set (set m.lines q l) k (get_or (set m.lines q l) k [] ++ (p ∷ []))) q [] ≡ l
tail_line m S p q k l h n =
    get_or-set_other (set m.lines q l) k q (get_or (set m.lines q l) k [] ++ (p ∷ [])) [] n ∙ get_or-set_same m.lines q l [] (omega (arith, S.lines))
