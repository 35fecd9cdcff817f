-- How far the reading has come: nothing has been read, one place more, all of them. Assumes nothing.
use Rattle.std.specs.Prelude.{◌≡◌, refl, List, [], ◌∷◌, ◌++◌, true, false, ℕ, ◌-◌, ◌≤◌, ◌<◌, eqb, ltb}
use Rattle.std.proofs.Common.{sym, ap, ◌∙◌, arith, eq-eqb, ne_eqb, lt-ltb, le-ltb, eqb-true, ltb-false}
use Rattle.std.proofs.lemmas.List.{get_or-replicate}
use Rattle.std.proofs.lemmas.Bool.{eqb-false, not-false}
use Rattle.lists.specs.Sizes.{queue_count}
use Rattle.lists.specs.Lists.{count, among}
use Rattle.lists.specs.Laws.{by_test, among_last}
use Rattle.lists.specs.Counts.{count_self}
use Rattle.lists.specs.Tables.{tab_ext, tab_of}
use Rattle.lines.specs.Lines.{line_of, Clear}
use Rattle.rules.specs.Values.{nobody}
use Rattle.rules.specs.Model.{places, line_count, Empty, Thread, vacant, Model, inbox, thread, line, lives_at}
use Rattle.rules.specs.Consistent.{OldConsistent}
use Rattle.rules.specs.Rules.{fresh}
use Rattle.order.specs.Sound.{old_sound, sending, sent}
use Rattle.table.specs.Cells.{thread_of, model_of}
use Rattle.table.specs.Clean.{Sized, Emptied}
use Rattle.table.specs.Rows.{thread_at, line_at}
use Rattle.table.specs.declared.Arrays.{Arrays}
use Rattle.table.specs.Stores.{Stood, Told, Named, Raised, Stored, wrote_then, named, stood, heard, raised}
use Rattle.nucleus.specs.View.{Shows}
use Rattle.nucleus.specs.declared.State.{State}
use Rattle.saving.specs.Format.{live_places}
use Rattle.saving.specs.Queues.{inbox_at, each_line}
use Rattle.saving.specs.declared.format.Row.{Row}
use Rattle.loading.specs.Positions.{live_in}
use Rattle.loading.specs.Reading.{thread_in, Filed, opened, Seats, Upto, Parentless, NobodyFrom}

-- ---- nothing

-- the arrays that the reading starts from are those of the fresh state
module _ {s : State} (S : Shows s fresh) where
  pub fresh_emptied : Emptied s.arrays.table.blocks s.arrays.table.words places
  fresh_emptied = record {
    sized = record { blocks = S.consists.whole.blocks; words = S.consists.whole.words };
    clean = λ p h. sym (thread_at s.desk.last.0 s.desk.running.0 s.arrays.table.blocks s.arrays.table.words s.arrays.lines p h) ∙ ap (λ (m : Model). thread m p) S.seen ∙ get_or-replicate places p vacant vacant h;
  }

  pub fresh_clear : Clear places line_count s.arrays.lines
  fresh_clear = record {
    tidy = S.consists.whole.lines;
    empty = λ q h. sym (line_at s.desk.last.0 s.desk.running.0 s.arrays.table.blocks s.arrays.table.words s.arrays.lines q h) ∙ ap (λ (m : Model). line m q) S.seen ∙ get_or-replicate line_count q [] [] h;
  }

pub filed_none : (m : Model) {l : List ℕ} → Clear places line_count l → Filed m (λ q. ltb q 0) l
filed_none m k = record { tidy = k.tidy; lines = λ q h. rw (le-ltb q 0 (omega arith)) (k.empty q h) }

pub seats_none : (m : Model) {b w : List ℕ} → Emptied b w places → Seats m [] b w
seats_none m k = record { sized = k.sized; threads = k.clean }

-- ---- one place more

pub opened_queue : (ps : List ℕ) (q : ℕ) → q < queue_count → opened ps q ≡ true
opened_queue ps q h = rw (lt-ltb q queue_count h)

pub opened_inbox : (ps : List ℕ) (p : ℕ) → opened ps (inbox p) ≡ among p ps
opened_inbox ps p =
    let a = inbox_at p in
    let e : inbox p - queue_count ≡ p = omega arith in
    rw (le-ltb (inbox p) queue_count (omega arith), e)

pub opened_here : (p : ℕ) (qs : List ℕ) → opened (qs ++ (p ∷ [])) (inbox p) ≡ true
opened_here p qs = opened_inbox (qs ++ (p ∷ [])) p ∙ among_last p p qs ∙ rw (eq-eqb p p refl)

pub opened_there : (p : ℕ) (qs : List ℕ) (r : ℕ) → (r ≡ inbox p → ⊥) → opened (qs ++ (p ∷ [])) r ≡ opened qs r
opened_there p qs r n =
    by_test (ltb r queue_count)
    (λ t. rw t)
    (λ t.
    let h = ltb-false r queue_count t in
    let a = inbox_at p in
    let z : p ≡ r - queue_count → ⊥ = λ e. n (omega arith) in
    rw t (among_last (r - queue_count) p qs ∙ rw (ne_eqb p (r - queue_count) z)))

pub seats_more : {m : Model} {qs b w b' w' : List ℕ} {p : ℕ} {t : Thread} → Seats m qs b w → Stored b w p (λ _. t) b' w' → t ≡ thread m p → Seats m (qs ++ (p ∷ [])) b' w'
seats_more {m} {qs} {p = p} S W e = record {
  sized = record { blocks = W.blocks; words = W.words };
  threads = λ r h. by_test (eqb p r)
      (λ y. let z : p ≡ r = eqb-true p r y in rw (among_last r p qs, y) (rw (← z) (W.here ∙ e)))
      (λ y. let z = eqb-false p r y in rw (among_last r p qs, y) (W.there r h (λ u. z (sym u)) ∙ S.threads r h));
}

pub parentless_more : {b w b' w' : List ℕ} {p : ℕ} {t : Thread} → Stored b w p (λ _. t) b' w' → t.parent ≡ nobody → Parentless b → Parentless b'
parentless_more {p = p} W e f r h =
    by_test (eqb r p)
    (λ y. let z : r ≡ p = eqb-true r p y in rw z (ap (λ (x : Thread). x.parent) W.here ∙ e))
    (λ y. ap (λ (x : Thread). x.parent) (W.there r h (eqb-false r p y)) ∙ f r h)

pub nobody_more : {b w b' w' : List ℕ} {n p : ℕ} {t : Thread} → Stored b w p (λ _. t) b' w' → p < n → NobodyFrom n b → NobodyFrom n b'
nobody_more W h f r k j = ap (λ (x : Thread). x.standing) (W.there r j (λ e. omega arith)) ∙ f r k j

-- ---- all of them

module _ {m : Model} (C : OldConsistent m) where
  -- nobody sends to an empty place
  pub no_inbox : (p : ℕ) → (thread m p).standing ≡ Empty → line m (inbox p) ≡ []
  no_inbox p e = go (line m (inbox p)) refl
    where
      go : (xs : List ℕ) → line m (inbox p) ≡ xs → line m (inbox p) ≡ []
      go [] z = z
      go (x ∷ xs) z =
          let S = old_sound m C in
          let k = count_self x xs in
          let c : 1 ≤ count x (line m (inbox p)) = rw z (omega arith) in
          let st = sending m S p x c in
          let sv = C.served x (omega arith) (omega arith) in
          let nu = C.numbers sv.0 sv.1 in
          let em : (thread m p).number ≡ nobody = ap (λ (t : Thread). t.number) (C.clean p e) in
          let se = sent m S p x c in
          absurd (omega (arith, sv.2))

  pub dead : (p : ℕ) → lives_at m p ≡ false → (thread m p).standing ≡ Empty
  dead p h = eqb-true (thread m p).standing Empty (not-false (eqb (thread m p).standing Empty) h)

  module _ {a : Arrays} (U : Upto m (live_places m) a) where
    threads_all : (p : ℕ) → p < places → thread_of a.table.blocks a.table.words p ≡ thread m p
    threads_all p h =
        U.seats.threads p h ∙ rw (live_in m p h) (by_test (lives_at m p)
        (λ t. rw t)
        (λ t. rw t (sym (C.clean p (dead p t)))))

    lines_all : (q : ℕ) → q < line_count → line_of places a.lines q ≡ line m q
    lines_all =
        each_line (λ q. line_of places a.lines q ≡ line m q)
        (λ q h. U.filed.lines q (omega arith) ∙ rw (opened_queue (live_places m) q h))
        (λ p h.
        let i = inbox_at p in
        U.filed.lines (inbox p) (omega arith) ∙ rw (opened_inbox (live_places m) p, live_in m p h) (by_test (lives_at m p)
        (λ t. rw t)
        (λ t. rw t (sym (no_inbox p (dead p t))))))

    pub all_read : model_of m.last m.running a.table.blocks a.table.words a.lines ≡ m
    all_read =
        let et = tab_ext places (thread_of a.table.blocks a.table.words) (thread m) threads_all ∙ tab_of vacant places m.threads C.threads in
        let el = tab_ext line_count (line_of places a.lines) (line m) lines_all ∙ tab_of [] line_count m.lines C.lines in
        λ i. record { last = m.last; running = m.running; threads = et i; lines = el i }

-- ---- what the stores of one thread make of its place

module _ {b w b₁ w₁ b₂ w₂ b₃ w₃ b₄ w₄ : List ℕ} {p n st pa x co wh y pr : ℕ} (k : Sized b w) (h : p < places) where
  stored : Named b w p n b₁ w₁ → Stood b₁ w₁ p st pa x b₂ w₂ → Told b₂ w₂ p co wh y b₃ w₃ → Raised b₃ w₃ p pr b₄ w₄
      → Stored b w p (λ _. record { number = n; standing = st; partner = pa; word = x; code = co; who = wh; answer = y; parent = pr }) b₄ w₄
  stored e s t r =
      let u = named k.blocks k.words h e in
      let v = stood u.blocks u.words h s in
      let i = heard v.blocks v.words h t in
      wrote_then u (wrote_then v (wrote_then i (raised i.blocks i.words h r)))

  -- read from the bytes
  pub seated : (row : Row) (s : List ℕ) (o : ℕ) → Named b w p n b₁ w₁ → Stood b₁ w₁ p st pa x b₂ w₂ → Told b₂ w₂ p co wh y b₃ w₃ → Raised b₃ w₃ p pr b₄ w₄
      → record { number = n; standing = st; partner = pa; word = x; code = co; who = wh; answer = y; parent = pr } ≡ thread_in row s n o
      → Stored b w p (λ _. thread_in row s n o) b₄ w₄
  seated row s o e u t r z = let W = stored e u t r in record { blocks = W.blocks; words = W.words; here = W.here ∙ z; there = W.there }
