-- The candidate as it is read: the queues, entry after entry, and the whole. Of bytes that are the image of m comes a state that shows m. Assumes nothing.
use Rattle.std.specs.Prelude.{◌≡◌, refl, List, [], ◌∷◌, ◌++◌, Bool, false, cond, ℕ, suc, ◌+◌, ◌*◌, ◌≤◌, ◌<◌, ltb, length, take, drop, get_or}
use Rattle.std.proofs.Common.{sym, ap, subst, ◌∙◌, arith, take-suc, take_all, lt-ltb, le-ltb, ltb-true, ltb-false}
use Rattle.std.proofs.Math.Numerals.{add-one}
use Rattle.lists.specs.Sizes.{queue_count}
use Rattle.lists.specs.Laws.{by_test}
use Rattle.lists.specs.Bytes.{two_at}
use Rattle.lines.specs.Lines.{line_of, Clear}
use Rattle.rules.specs.Model.{places, line_count, Thread, Model, inbox, thread, line, live}
use Rattle.rules.specs.Consistent.{ConsistentBy}
use Rattle.table.specs.Cells.{model_of, Filled}
use Rattle.table.specs.declared.Arrays.{Arrays}
use Rattle.table.specs.declared.Table.{Table}
use Rattle.table.specs.Clean.{Sized, Emptied}
use Rattle.table.specs.Stores.{Stored}
use Rattle.nucleus.specs.View.{ShowsBy}
use Rattle.order.specs.Sound.{old_of}
use Rattle.saving.specs.Format.{lengths_at, head_length, entry_length, inbox_length_at, body_length, live_places}
use Rattle.saving.specs.Editions.{known_few}
use Rattle.saving.specs.Queues.{inbox_at, each_line}
use Rattle.saving.proofs.Longest.{live_length}
use Rattle.saving.specs.declared.format.Row.{Row}
use Rattle.loading.specs.Loads.{ImageAsBy}
use Rattle.loading.specs.Positions.{offset}
use Rattle.loading.specs.Reading.{Joined, thread_in, Filed, opened, Upto, queue_at, QueuesUpto, QueuesRead, Parentless, NobodyFrom, Entered}
use Rattle.loading.specs.Finds.{last_is, running_is, live_is, size_found, queue_found, thread_is, inbox_length, inbox_is}
use Rattle.loading.specs.Entry.{within, split, p_low, p_named, p_new, p_is, n_is, o_is, entry_at}
use Rattle.loading.specs.Joins.{filed_more}
use Rattle.loading.specs.Fills.{filed_none, seats_none, opened_queue, opened_inbox, opened_here, opened_there, seats_more, parentless_more, nobody_more, all_read}

-- ---- the queues
pub queues_none : {row : Row} {s l : List ℕ} {at n : ℕ} → at ≡ head_length row + entry_length * n → n ≡ get_or s 3 0 → QueuesUpto row s 0 at l l
unfolding queue_at
queues_none e f = record { from = rw (← f) e; filed = λ strict m I k. filed_none m k }

module _ {row : Row} {s : List ℕ} {q at n : ℕ} {l l₁ l₂ : List ℕ} (U : QueuesUpto row s q at l l₁) (h : q < row.queues) (en : n ≡ get_or s (lengths_at + q) 0) (j : Joined s at n q n l₁ l₂) where
  one_queue : (strict : Bool) (m : Model) → ImageAsBy strict row m s → Clear places line_count l → Filed m (λ r. ltb r (q + 1)) l₂
  one_queue strict m I k =
      let few = known_few I.known in
      filed_more (old_of strict I.consistent) (U.filed strict m I k) q (omega arith) (le-ltb q q (omega arith)) j (rw (U.from, en) (queue_found I q h)) (en ∙ size_found I q h)
      (λ r. ltb r (q + 1)) (lt-ltb q (q + 1) (omega arith)) (λ r d. by_test (ltb r q)
      (λ t. let z = ltb-true r q t in rw t (lt-ltb r (q + 1) (omega arith)))
      (λ t. let z = ltb-false r q t in rw t (le-ltb r (q + 1) (omega (arith, d)))))

  pub queues_more : QueuesUpto row s (q + 1) (at + n) l l₂
  unfolding queue_at
  queues_more = rw add-one (record { from = rw (U.from, en) refl; filed = λ strict m I k. rw add-one at (one_queue strict m I k) })

-- what the row has not is empty
pub queues_read : {row : Row} {s l l₁ : List ℕ} {q at : ℕ} → QueuesUpto row s q at l l₁ → q ≡ row.queues → QueuesRead row s l l₁
queues_read {row} {s} {l} {l₁} {q} U e = record {
  filed = λ strict m I k.
      let F = U.filed strict m I k in
      let few = known_few I.known in
      record {
        tidy = F.tidy;
        lines = each_line (λ r. line_of places l₁ r ≡ cond (opened [] r) (line m r) [])
            (λ r h. rw (opened_queue [] r h) (F.lines r (omega arith) ∙ by_test (ltb r q) (λ t. rw t) (λ t. let z = ltb-false r q t in rw t (sym (I.holds.queues r (omega arith) h)))))
            (λ p h. let a = inbox_at p in rw (opened_inbox [] p) (F.lines (inbox p) (omega arith) ∙ rw (le-ltb (inbox p) q (omega arith))));
      };
}

-- ---- an entry

-- an entry that names no place of the row is none of an image
pub entered_no : {row : Row} {s : List ℕ} {i e : ℕ} {a : Arrays} → Sized a.table.blocks a.table.words → e ≡ entry_at row i → row.places ≤ get_or s e 0 → Entered row s i (i + 1) a a
entered_no {row} {s} {i = i} k z h = record {
  sized = k;
  parentless = λ _ f. f;
  beyond = λ f. f;
  reads = λ strict m I g U. let t : i < live m = omega arith in let e = ap (λ (x : ℕ). get_or s x 0) z ∙ p_is I t in let v = p_named I t in absurd (omega arith);
}

module _ {row : Row} {s : List ℕ} {i e p n o c : ℕ} {a a' : Arrays} (W : Stored a.table.blocks a.table.words p (λ _. thread_in row s n o) a'.table.blocks a'.table.words)
    (j : Joined s (o + body_length row) c (queue_count + p) c a.lines a'.lines)
    (low : p < row.places) (ee : e ≡ entry_at row i) (ep : p ≡ get_or s e 0) (en : n ≡ get_or s (e + 1) 0) (eo : o ≡ two_at s (e + 2)) (ec : c ≡ get_or s (o + inbox_length_at) 0) where
  module _ (strict : Bool) (m : Model) (I : ImageAsBy strict row m s) (g : i < live m) (U : Upto m (take i (live_places m)) a) where
    abbrev who : ℕ
    who = get_or (live_places m) i 0

    abbrev fore : List ℕ
    fore = take i (live_places m)

    abbrev aft : List ℕ
    aft = drop (suc i) (live_places m)

    vp : p ≡ who
    vp = ep ∙ ap (λ (x : ℕ). get_or s x 0) ee ∙ p_is I g

    vn : n ≡ (thread m who).number
    vn = en ∙ ap (λ (x : ℕ). get_or s (x + 1) 0) ee ∙ n_is I g

    vo : o ≡ offset row m fore
    vo = eo ∙ ap (λ (x : ℕ). two_at s (x + 2)) ee ∙ o_is I g

    vc : c ≡ length (line m (inbox who))
    vc = ec ∙ ap (λ (x : ℕ). get_or s (x + inbox_length_at) 0) vo ∙ inbox_length I fore who aft (split I g)

    vq : queue_count + p ≡ inbox who
    vq = let z = vp in let f = inbox_at who in omega arith

    one_more : Upto m (take (suc i) (live_places m)) a'
    one_more = rw (take-suc (live_places m) i 0 (within I g)) (record {
      seats = seats_more U.seats (rw (vp, vn, vo) at W) (thread_is I fore who aft (split I g));
      filed =
          filed_more (old_of strict I.consistent) U.filed (inbox who) (let v = p_low I g in let f = inbox_at who in omega arith) (opened_inbox fore who ∙ p_new I g) (rw vq at j)
          (rw (vo, vc) (inbox_is I fore who aft (split I g))) vc (opened (fore ++ (who ∷ []))) (opened_here who fore) (opened_there who fore);
    })

  pub entered_one : Entered row s i (i + 1) a a'
  entered_one = rw add-one (record { sized = record { blocks = W.blocks; words = W.words }; parentless = λ z. parentless_more W (rw z); beyond = nobody_more W low; reads = λ strict m I g U. one_more strict m I (omega arith) U })

-- ---- all entries
pub entered_none : {row : Row} {s : List ℕ} {a : Arrays} → Sized a.table.blocks a.table.words → Entered row s 0 0 a a
entered_none k = record { sized = k; parentless = λ _ f. f; beyond = λ f. f; reads = λ strict m I g U. U }

pub entered_more : {row : Row} {s : List ℕ} {i : ℕ} {a a₁ a₂ : Arrays} → Entered row s 0 i a a₁ → Entered row s i (i + 1) a₁ a₂ → Entered row s 0 (i + 1) a a₂
entered_more E F = record { sized = F.sized; parentless = λ e f. F.parentless e (E.parentless e f); beyond = λ f. F.beyond (E.beyond f); reads = λ strict m I g U. F.reads strict m I g (E.reads strict m I (omega arith) U) }

-- ---- the whole
module _ {row : Row} {s l l₁ : List ℕ} {t : Table} {a : Arrays} {n f y x : ℕ} (e : Emptied t.blocks t.words places) (k : Clear places line_count l) (q : QueuesRead row s l l₁)
    (E : Entered row s 0 n (record { table = t; lines = l₁ }) a) (en : n ≡ get_or s 3 0) (ef : Filled f a.table.blocks) (ey : y ≡ get_or s 1 0) (ex : x ≡ get_or s 2 0) where
  module _ (strict : Bool) (m : Model) (I : ImageAsBy strict row m s) where
    all_in : Upto m (live_places m) a
    all_in =
        let v = live_length m in
        let z = en ∙ live_is I in
        rw (take_all n (live_places m) (omega arith)) at (E.reads strict m I (omega arith) (record { seats = seats_none m e; filed = q.filed strict m I k }))

    is_seen : model_of y x a.table.blocks a.table.words a.lines ≡ m
    is_seen = rw (ey ∙ last_is I, ex ∙ running_is I) (all_read (old_of strict I.consistent) all_in)

  pub candidate_parentless : row.parents ≡ false → Parentless a.table.blocks
  candidate_parentless z = E.parentless z (λ p h. ap (λ (x : Thread). x.parent) (e.clean p h))

  pub candidate_beyond : NobodyFrom row.places a.table.blocks
  candidate_beyond = E.beyond (λ p _ h. ap (λ (x : Thread). x.standing) (e.clean p h))

  pub candidate_shows : (strict : Bool) (m : Model) → ImageAsBy strict row m s → ShowsBy strict (record { desk = record { filled = f; last = record { 0 = y }; running = record { 0 = x } }; arrays = a }) m
  candidate_shows strict m I = record {
    consists = record {
      whole = record { blocks = E.sized.blocks; words = E.sized.words; lines = (all_in strict m I).filed.tidy };
      filled = ef;
      consistent = subst (ConsistentBy strict) (sym (is_seen strict m I)) I.consistent;
    };
    seen = is_seen strict m I;
  }

  pub candidate_is : ((strict : Bool) (m : Model) → ImageAsBy strict row m s → ShowsBy strict (record { desk = record { filled = f; last = record { 0 = y }; running = record { 0 = x } }; arrays = a }) m)
      × (row.parents ≡ false → Parentless a.table.blocks)
      × NobodyFrom row.places a.table.blocks
  candidate_is = (candidate_shows, candidate_parentless, candidate_beyond)
