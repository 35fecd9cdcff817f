-- What the end of a family comes to, by the rules' own end: `deep_enough`, `orphans_none`, `family_only`, and that what is consistent stays so.
-- Here stand the words; the laws of them stand in proofs/EndFamily.antt.
use Rattle.std.specs.Prelude.{ℕ, ◌≡◌, ◌≢◌, ◌⊎◌, List, false}
use Rattle.kin.specs.Climb.{climb}
use Rattle.kin.specs.Family.{OneByOne}
use Rattle.rules.specs.Model.{Empty, Ready, Model, thread, lives_at}
use Rattle.rules.specs.Rules.{in_use, end_one}
use Rattle.rules.specs.Consistent.{above, ListensToLive}
use Rattle.order.specs.Sound.{Sound, Kin}
use Rattle.order.specs.Moves.{Waits}

-- parents lead from r to p; and every thread is of its own family
abbrev pub Of : Model → ℕ → ℕ → Type 0
Of m p r = (j : ℕ) × (climb (above m) j r ≡ p)

-- the thread at r has its number and parent as before, and if it is ready goes on waiting for its turn, no further back
pub record Same (m k : Model) (r : ℕ) : Type 0 where
  pub number : (thread k r).number ≡ (thread m r).number
  pub parent : (thread k r).parent ≡ (thread m r).parent
  pub waits : (thread m r).standing ≡ Ready → Waits m k r

-- k is m without exactly the family of the thread at p, and everyone else lives with number, place and parent as before
pub record Without (m : Model) (p : ℕ) (k : Model) : Type 0 where
  pub gone : (r : ℕ) → (thread m r).standing ≢ Empty → Of m p r → (thread k r).standing ≡ Empty
  pub only : (r : ℕ) → (thread m r).standing ≢ Empty → (thread k r).standing ≡ Empty → Of m p r
  pub stay : (r : ℕ) → (thread k r).standing ≢ Empty → ((thread m r).standing ≢ Empty) × Same m k r

-- all that is shown of the end of the thread at p with its family
pub record Dropped (m : Model) (p : ℕ) (k : Model) : Type 0 where
  pub sound : Sound k
  pub kin : Kin k
  pub listens : ListensToLive m → ListensToLive k
  pub without : Without m p k
  pub waits : (r : ℕ) → (thread m r).standing ≡ Ready → Waits m k r ⊎ (Of m p r × ((thread k r).standing ≡ Empty))
  pub number : (r : ℕ) → (thread m r).standing ≢ Empty → (thread k r).standing ≡ Empty → in_use k (thread m r).number ≡ false
  -- one after another, as each one ends alone
  pub turns : (l : List ℕ) × OneByOne Sound lives_at above end_one l m k
