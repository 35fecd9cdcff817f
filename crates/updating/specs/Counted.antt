-- "An edition 1 image with such a receiver: load 10, update wakes it" (document 02, P2): thread 1 was created and has ended, and 0 receives from it still,
-- as the old rules had it. A row of the table of counted cases (recovery), and tied to what load and the update load promise.
-- Here stand the words; the laws of them stand in proofs/Counted.antt.
use Rattle.std.specs.Prelude.{ℕ, zero, suc, ◌-◌, ◌≤◌, ◌≡◌, refl, ◌≢◌, List, [], ◌∷◌, ◌++◌, replicate}
use Rattle.std.proofs.Common.{arith}
use Rattle.lists.specs.Lists.{none, tally}
use Rattle.lists.specs.Sizes.{places, devices}
use Rattle.lists.specs.Tables.{all_same}
use Rattle.rules.specs.Values.{nobody}
use Rattle.rules.specs.Model.{line_count, Empty, Running, Sending, Awaiting, Receiving, Thread, vacant, Model, thread, line, all_places}
use Rattle.rules.specs.Rules.{choice, updated}
use Rattle.rules.specs.Consistent.{OldConsistent}
use Rattle.rules.specs.declared.Choice.TheVariants.{Run, Stuck}
use Rattle.order.specs.KinKept.{kin_older}
use Rattle.order.specs.Sound.{Fit, Sound, old_whole}
use Rattle.order.specs.Belongs.{Lineless, in_none}
use Rattle.order.specs.End.{fit_vacant}
use Rattle.nucleus.specs.View.{Shows}
use Rattle.saving.specs.Format.{queues_of, parents_of, places_of, row_of, Known, Holds, queues_in, encode_as}
use Rattle.saving.specs.Editions.{known_of}
use Rattle.loading.specs.Loads.{Loads, OldImage}
use Rattle.loading.specs.declared.Loaded.{Loaded}
use Rattle.updating.specs.Updates.{Updates}

-- 0 receives from 1
abbrev listener : Thread
listener = record { number = 0; standing = Receiving; partner = 1; word = 0; code = 0; who = nobody; answer = 0; parent = nobody }

-- 1 is the last number given, and nobody has it
abbrev pub deserter : Model
deserter = record { last = 1; running = none; threads = listener ∷ replicate (places - 1) vacant; lines = replicate line_count [] }

-- ---- the old rules call it consistent, and the rules as they are do not
pub others : (p : ℕ) → thread deserter (suc p) ≡ vacant
others p = all_same (places - 1) p vacant

abbrev no_places : List ℕ
no_places = []

lineless : (q : ℕ) → line deserter q ≡ []
lineless q = all_same line_count q no_places

fit_listener : Fit listener
fit_listener = record {
  clean = λ e. absurd (omega arith);
  table = λ _. refl;
  answer = refl;
  number = λ _. omega arith;
  apart = λ _ _. omega arith;
  words = (omega arith, omega arith);
}

-- what is true of both is true of every place
each : (P : Thread → Type 0) → P listener → P vacant → (p : ℕ) → P (thread deserter p)
each P a b zero = a
each P a b (suc p) = rw (others p) b

differ : (p r : ℕ) → (thread deserter p).standing ≢ Empty → (thread deserter p).number ≡ (thread deserter r).number → p ≡ r
differ zero zero h e = refl
differ zero (suc r) h e = absurd (let z : ◌≡◌ {A = ℕ} 0 nobody = rw (others r) at e in omega arith)
differ (suc p) r h e = absurd ((rw (others p) at h) refl)

sound : Sound deserter
sound = record {
  threads = refl;
  lines = refl;
  last = omega arith;
  fits = each Fit fit_listener fit_vacant;
  differ = differ;
  alone = λ p e. absurd (each (λ t. t.standing ≢ Running) (omega arith) (omega arith) p e);
  busy = λ k. absurd (k refl);
  served = λ p i j. absurd (each (λ t. Sending ≤ t.standing → t.standing ≤ Awaiting → ⊥) (λ i j. omega arith) (λ i j. omega arith) p i j);
  deaf = λ r p e. absurd (each (λ t. t.standing ≢ Sending) (omega arith) (omega arith) p e);
  stood = λ p q. rw (lineless q, in_none deserter (thread deserter p) (each (λ t. Lineless t.standing) (omega arith) (omega arith) p) q);
}

parentless : (p : ℕ) → (thread deserter p).parent ≡ nobody
parentless = each (λ t. t.parent ≡ nobody) refl refl

pub consistent : OldConsistent deserter
consistent = old_whole deserter sound (λ _. refl) (kin_older deserter sound parentless)

-- ---- its image (25 bytes), and the one that is saved after the update (74 bytes)
abbrev pub before : List ℕ
before =
    1 ∷ 1 ∷ 255 ∷ 1 ∷ 0 ∷ 0 ∷ 25 ∷ 0
    ∷ 0 ∷ 0 ∷ 12 ∷ 0
    ∷ 5 ∷ 1 ∷ 0 ∷ 0 ∷ 0 ∷ 0 ∷ 0 ∷ 255 ∷ 0 ∷ 0 ∷ 0 ∷ 0 ∷ 0 ∷ []

abbrev behind : List ℕ
behind =
    4 ∷ 1 ∷ 0 ∷ 1 ∷ 0 ∷ 0 ∷ replicate devices 0 ++ (74 ∷ 0 ∷ [])
    ++ (0 ∷ 0 ∷ 60 ∷ 0 ∷ [])
    ++ (1 ∷ 255 ∷ 0 ∷ 0 ∷ 0 ∷ 0 ∷ 16 ∷ 1 ∷ 0 ∷ 0 ∷ 0 ∷ 0 ∷ 0 ∷ 255 ∷ [])

old_known : Known (row_of 1)
unfolding queues_of
old_known = known_of 1 (λ z. omega arith)

alone : (p : ℕ) → (row_of 1).places ≤ p → (thread deserter p).standing ≡ Empty
unfolding places_of
alone zero h = absurd (omega arith)
alone (suc p) h = rw (others p)

holds : Holds (row_of 1) deserter
holds = record { queues = λ q _ _. lineless q; parents = λ _. parentless; places = λ p h _. alone p h }

pub image : OldImage deserter before
unfolding encode_as queues_of parents_of queues_in all_places tally
image = (row_of 1, record { known = old_known; consistent = consistent; holds = holds; bytes = refl })

-- ---- the case

-- a state by the old rules, its image in an edition, and the image that is saved after the update
pub record CountedUpdate : Type 0 where
  pub old : Model
  pub edition : ℕ
  pub image : List ℕ
  pub saved : List ℕ

unfoldable pub updates : List CountedUpdate
updates = record { old = deserter; edition = 1; image = before; saved = behind } ∷ []

-- what is told of it, and seen
pub record SeenOfUpdate : Type 0 where
  pub load_refuses : (r : Loaded) → Loads before r → r.code ≡ 10
  pub update_takes_it : (r : Loaded) → Updates before r → (r.code ≡ 0) × Shows r.state (updated deserter)
  pub choice_before : choice deserter ≡ Stuck
  pub choice_behind : choice (updated deserter) ≡ Run (record { 0 = 0 })
  pub thread_behind : thread (updated deserter) 0 ≡ record { number = 0; standing = Running; partner = nobody; word = 0; code = 16; who = 1; answer = 0; parent = nobody }
