-- The images of "Loads that were counted" (document 01), and those of document 02's P1, P5 and P6: one table, and both ways: loading these bytes gives the
-- state, and saving the state gives the bytes of the newest edition.
-- Here stand the words; the laws of them stand in proofs/Counted.antt.
use Rattle.std.specs.Prelude.{ℕ, ◌≤◌, ◌≡◌, List, [], ◌∷◌, ◌++◌, length, take, replicate}
use Rattle.lists.specs.Sizes.{devices}
use Rattle.rules.specs.Model.{Model}
use Rattle.rules.specs.Rules.{fresh, after}
use Rattle.rules.specs.declared.Event.{Event}
use Rattle.rules.specs.declared.Event.TheVariants.{Create, WaitClock, SliceEnd, Tick, WaitDevice}
use Rattle.nucleus.specs.View.{Shows}
use Rattle.nucleus.specs.declared.State.{State}
use Rattle.loading.specs.Loads.{Loads}
use Rattle.saving.specs.Save.{Saves}
use Rattle.loading.specs.declared.Loaded.{Loaded}

-- a history from fresh, its image in an edition, and its image as it is saved
pub record CountedImage : Type 0 where
  pub events : List Event
  pub edition : ℕ
  pub image : List ℕ
  pub saved : List ℕ

-- 1 is created while 0 runs ..
abbrev pub pair : List Event
pair = Create ∷ Create ∷ []

-- .. and while nobody does: no parents, which is all that editions 1 and 2 can hold
abbrev pub strangers : List Event
strangers = Create ∷ WaitClock ∷ Create ∷ Tick ∷ SliceEnd ∷ []

abbrev pub waits : List Event
waits = Create ∷ WaitDevice (record { 0 = 33 }) ∷ []

-- the lengths of the device queues where nobody waits at a device
abbrev nobody_waits : List ℕ
nobody_waits = replicate devices 0

-- a new thread's body: its standing, and what else it has
abbrev body : ℕ → ℕ → List ℕ
body st pa = st ∷ pa ∷ 0 ∷ 0 ∷ 0 ∷ 0 ∷ 0 ∷ 255 ∷ 0 ∷ 0 ∷ 0 ∷ 0 ∷ 0 ∷ []

-- 0 waits at device 33, in the edition e: its body's bytes are b, and n the total
abbrev waiting : ℕ → ℕ → List ℕ → List ℕ
waiting e n b =
    e ∷ 0 ∷ 255 ∷ 1 ∷ 0 ∷ 0 ∷ replicate 33 0 ++ (1 ∷ replicate 14 0) ++ (n ∷ 0 ∷ [])
    ++ (0 ∷ 0 ∷ 61 ∷ 0 ∷ [])
    ++ (0 ∷ [])
    ++ b

-- 0 runs and 1 is ready, in the edition e: their bodies' bytes are a and b, the second starts at o, and n is the total
abbrev two : ℕ → ℕ → ℕ → List ℕ → List ℕ → List ℕ
two e n o a b =
    e ∷ 1 ∷ 0 ∷ 2 ∷ 1 ∷ 0 ∷ nobody_waits ++ (n ∷ 0 ∷ [])
    ++ (0 ∷ 0 ∷ 65 ∷ 0 ∷ [])
    ++ (1 ∷ 1 ∷ o ∷ 0 ∷ [])
    ++ (1 ∷ [])
    ++ a
    ++ b

-- in an edition with parents, which are these (93 bytes)
abbrev pub related : ℕ → ℕ → ℕ → List ℕ
related e f g = two e 93 79 (body 1 255 ++ (f ∷ [])) (body 2 255 ++ (g ∷ []))

unfoldable pub images : List CountedImage
images =
    -- Fresh.
    record {
      events = [];
      edition = 1;
      image = 1 ∷ 253 ∷ 255 ∷ 0 ∷ 0 ∷ 0 ∷ 8 ∷ 0 ∷ [];
      saved = 4 ∷ 253 ∷ 255 ∷ 0 ∷ 0 ∷ 0 ∷ nobody_waits ++ (56 ∷ 0 ∷ []);
    }
    -- Document 01's two threads (43 bytes; 91 in edition 2). In these editions neither has a parent.
    ∷ record {
      events = strangers;
      edition = 1;
      image =
          1 ∷ 1 ∷ 0 ∷ 2 ∷ 1 ∷ 0 ∷ 43 ∷ 0
          ∷ 0 ∷ 0 ∷ 17 ∷ 0
          ∷ 1 ∷ 1 ∷ 30 ∷ 0
          ∷ 1
          ∷ 1 ∷ 255 ∷ 0 ∷ 0 ∷ 0 ∷ 0 ∷ 0 ∷ 255 ∷ 0 ∷ 0 ∷ 0 ∷ 0 ∷ 0
          ∷ 2 ∷ 255 ∷ 0 ∷ 0 ∷ 0 ∷ 0 ∷ 0 ∷ 255 ∷ 0 ∷ 0 ∷ 0 ∷ 0 ∷ 0 ∷ [];
      saved = related 4 255 255;
    }
    ∷ record { events = strangers; edition = 2; image = two 2 91 78 (body 1 255) (body 2 255); saved = related 4 255 255 }
    -- P1: 0 alone waits at device 33 (74 bytes). Edition 1 cannot hold it.
    ∷ record { events = waits; edition = 2; image = waiting 2 74 (body 7 33); saved = waiting 4 75 (body 7 33 ++ (255 ∷ [])) }
    -- P5: create twice, and 0 is the parent of 1. No edition before 3 can hold it.
    ∷ record { events = pair; edition = 3; image = related 3 255 0; saved = related 4 255 0 }
    -- P6: edition 4 has edition 3's layout.
    ∷ record { events = pair; edition = 4; image = related 4 255 0; saved = related 4 255 0 }
    ∷ []

abbrev pub state : CountedImage → Model
state c = after c.events fresh

-- loaded, the bytes give the state; saved with room, the state gives the other bytes; both with code 0
pub record Undone (m : Model) (image saved : List ℕ) : Type 0 where
  pub loads : (r : Loaded) → Loads image r → (r.code ≡ 0) × Shows r.state m
  pub saves : (s : State) (before a : List ℕ) (c n : ℕ) → Shows s m → length saved ≤ length before → Saves s before c n a → (c ≡ 0) × (take n a ≡ saved)
