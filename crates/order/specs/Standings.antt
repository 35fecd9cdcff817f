-- Moves by the standing that they end in: one whose thread names no partner, and one that names a live partner.
use Rattle.std.specs.Prelude.{ℕ, ◌≤◌, ◌≡◌, refl, ◌≢◌, List, true, false, ◌||◌, eqb}
use Rattle.std.proofs.Common.{arith, ne_eqb, le-leb}
use Rattle.rules.specs.Values.{nobody}
use Rattle.rules.specs.Model.{last_number, Empty, Ready, Sending, Awaiting, Receiving, Thread, Model, ready, thread}
use Rattle.rules.specs.Rules.{stands, told, woken, hears}
use Rattle.rules.specs.Consistent.{as_table, is_answer}
use Rattle.order.specs.Sound.{Short, Live, Sound, small}
use Rattle.order.specs.Belongs.{in_none, in_ready}
use Rattle.order.specs.Lines.{Shift, joins}
use Rattle.order.specs.Moves.{RunsThen, Move, Step, stepped, aside}

-- the thread of place p with another standing and answer
abbrev pub become : Model → ℕ → ℕ → ℕ → ℕ → ℕ → ℕ → ℕ → Thread
become m p st pa w c n a = stands st pa w (told c n a (thread m p))

-- an answer as the table of document 01 allows
pub record AllowedAnswer (c n a : ℕ) : Type 0 where
  pub allowed : is_answer c n a ≡ true
  pub short : Short a

-- the answer that a place has
pub as_told : (m : Model) → Sound m → (p : ℕ) → AllowedAnswer (thread m p).code (thread m p).who (thread m p).answer
as_told m S p = record { allowed = (S.fits p).answer; short = (S.fits p).words.1 }

-- an answer from a number
pub told_by : (c n a : ℕ) → n ≤ last_number → eqb c 0 || eqb c 16 ≡ true → Short a → AllowedAnswer c n a
told_by c n a h e s = record { allowed = rw (e, le-leb n last_number h); short = s }

module _ (m : Model) (S : Sound m) (p : ℕ) (lived : (thread m p).standing ≢ Empty) where
  -- running, ready, waiting for the clock
  pub plain : (st c n a x : ℕ) (ls : List (List ℕ)) → (st ≢ Empty) × (st ≢ Sending) × (st ≢ Awaiting) × (st ≢ Receiving)
      → as_table st nobody 0 ≡ true → AllowedAnswer c n a
      → RunsThen m p (become m p st nobody 0 c n a) x → Shift m p (become m p st nobody 0 c n a) ls
      → Move m p (become m p st nobody 0 c n a) x ls
  plain st c n a x ls k r w T L =
      let small-number : (thread m p).number ≤ last_number = (S.fits p).number lived in
      record {
        lived = lived;
        lives = k.0;
        named = refl;
        raised = refl;
        fit = record {
          clean = λ e. absurd (k.0 e);
          table = λ _. r;
          answer = w.allowed;
          number = λ _. small-number;
          apart = λ _ _ e. omega arith;
          words = (omega arith, w.short);
        };
        turn = T;
        shift = L;
        served = λ i j. absurd (omega arith);
        hearing = λ s i j. rw (ne_eqb st Receiving k.3);
        heard = λ r i j. absurd (k.1 i);
        listens = λ five _. absurd (k.3 five);
      }

  -- sending, awaiting reply
  pub named : (st pa w x : ℕ) (ls : List (List ℕ)) → (st ≢ Empty) × (st ≢ Receiving) → as_table st pa w ≡ true → Short w → Live m pa → pa ≢ (thread m p).number
      → ((r : ℕ) → st ≡ Sending → pa ≡ (thread m r).number → hears (thread m r) (thread m p).number ≡ false)
      → RunsThen m p (stands st pa w (thread m p)) x → Shift m p (stands st pa w (thread m p)) ls
      → Move m p (stands st pa w (thread m p)) x ls
  named st pa w x ls k r b l n d T L = record {
    lived = lived;
    lives = k.0;
    named = refl;
    raised = refl;
    fit = record {
      clean = λ e. absurd (k.0 e);
      table = λ _. r;
      answer = (S.fits p).answer;
      number = λ _. (S.fits p).number lived;
      apart = λ _ _. n;
      words = (b, (S.fits p).words.1);
    };
    turn = T;
    shift = L;
    served = λ i j. l;
    hearing = λ s i j. rw (ne_eqb st Receiving k.1);
    heard = d;
    listens = λ five _. absurd (k.1 five);
  }

  -- p, in no line and not running, has its answer and goes to the back of ready
  pub wakes : (c n a : ℕ) → AllowedAnswer c n a → Awaiting ≤ (thread m p).standing → (thread m p).standing ≤ Receiving → Step m (woken p c n a m)
  wakes c n a w h i =
      let t = become m p Ready nobody 0 c n a in
      stepped m p t m.running _ S (plain Ready c n a m.running _ (omega arith) refl w
      (aside m S p t (omega arith) (small m S p lived) (omega arith))
      (joins m S p t ready (omega arith) (in_none m (thread m p) (omega arith)) (in_ready m t refl)))
      (omega arith)
