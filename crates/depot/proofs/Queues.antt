-- THE COUNTS OF THE FIRST LINE ARE THE LENGTHS OF THE QUEUES: those of whom a report says that they are ready, or wait for the clock, stand in that queue, and
-- nobody else does.
use Rattle.std.specs.Prelude.{◌≡◌, refl, ◌≢◌, List, [], ◌∷◌, Bool, true, ℕ, ◌<◌, eqb, length}
use Rattle.std.proofs.Common.{sym, ap, ◌∙◌, arith, eqb-true}
use Rattle.std.proofs.lemmas.Bool.{eqb-false}
use Rattle.lists.specs.Lists.{bit, count, without, only, up_from}
use Rattle.lists.specs.Laws.{by_test}
use Rattle.lists.specs.Counts.{count_self, count_past, without_self, without_past, some_among, distinct_count}
use Rattle.lists.specs.Search.{up_from_distinct, count_up_from}
use Rattle.lists.specs.Only.{only_in, only_out, only_distinct}
use Rattle.lists.specs.Without.{without_length}
use Rattle.rules.specs.Model.{Place, Code, places, Empty, Ready, Waiting, Thread, Model, ready, clock, thread, line, all_places, live}
use Rattle.rules.specs.Consistent.{belongs, Consistent}
use Rattle.order.specs.Sound.{inside}
use Rattle.depot.specs.Text.{ascii}
use Rattle.depot.specs.Decimal.{decimal}
use Rattle.depot.specs.Report.{how_many, count_line}
use Rattle.depot.proofs.Sheets.{tally_only}

-- lists in which everybody stands as often are as long
same_length : (xs ys : List ℕ) → ((p : ℕ) → count p xs ≡ count p ys) → length xs ≡ length ys
same_length [] [] h = refl
same_length [] (y ∷ ys) h = let a = h y in let b = count_self y ys in omega arith
same_length (x ∷ xs) ys h =
    let a = h x in
    let b = count_self x xs in
    let c = without_length x ys (some_among x ys (omega arith)) in
    let others : (p : ℕ) → count p xs ≡ count p (without x ys) = λ p.
    by_test (eqb p x)
    (λ t. let e = eqb-true p x t in let d = without_self x ys (omega arith) in rw e (omega arith))
    (λ t. let n = eqb-false p x t in let d = without_past p x ys n in let f = count_past p x xs n in let g = h p in omega arith) in
    let i = same_length xs (without x ys) others in
    omega arith

-- of those below n that a test holds of, each stands there once
each_once : (n : ℕ) (f : ℕ → Bool) (p : ℕ) → (f p ≡ true → p < n) → count p (only f (up_from 0 n)) ≡ bit (f p)
each_once n f p h =
    distinct_count p (only f (up_from 0 n)) (only_distinct f (up_from 0 n) (up_from_distinct n 0))
    ∙ ap bit
    (by_test (f p)
    (λ t. let l = h t in only_in f p (up_from 0 n) t (some_among p (up_from 0 n) (count_up_from n 0 p (omega arith) (omega arith))) ∙ sym t)
    (λ t. only_out f p (up_from 0 n) t ∙ sym t))

-- the queue in which just those stand whose standing is x
queue_length : (m : Model) → Consistent m → (q : ℕ) (x : Code) → x ≢ Empty → ((t : Thread) → belongs m t q ≡ eqb t.standing x)
    → how_many m x ≡ length (line m q)
unfolding all_places
queue_length m C q x k h =
    let f : Place → Bool = λ p. eqb (thread m p).standing x in
    let low : (p : Place) → f p ≡ true → p < places = λ p t. inside m C.old.threads p (λ z. k (sym (eqb-true (thread m p).standing x t) ∙ z)) in
    tally_only f ∙ same_length (only f all_places) (line m q) (λ p. each_once places f p (low p) ∙ ap bit (sym (h (thread m p))) ∙ sym (C.old.stood p q))

pub ready_queue : (m : Model) → Consistent m → how_many m Ready ≡ length (line m ready)
ready_queue m C = queue_length m C ready Ready (λ z. omega arith) (λ t. refl)

pub clock_queue : (m : Model) → Consistent m → how_many m Waiting ≡ length (line m clock)
clock_queue m C = queue_length m C clock Waiting (λ z. omega arith) (λ t. refl)

-- So the first line of the report is this.
pub first_line_lem : (m : Model) → Consistent m
    → count_line m ≡ ascii "threads" ∷ decimal (live m) ∷ ascii "ready" ∷ decimal (length (line m ready)) ∷ ascii "clock" ∷ decimal (length (line m clock)) ∷ []
first_line_lem m C = rw (ready_queue m C, clock_queue m C) refl
