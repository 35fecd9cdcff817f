-- What a look-up promises, of any bytes and any number (document 01: "A look-up by number gives the thread's body, handed back as a part of the caller's own
-- image; an image that load refuses, or a number not in it, gives an empty part"). That it settles the part is shown in Looks.antt.
use Rattle.std.specs.Prelude.{◌≡◌, List, [], true, ℕ, ◌+◌, ◌≤◌, length, take, drop, get_or}
use Rattle.rules.specs.Model.{Model, thread, lives_at}
use Rattle.saving.specs.Format.{body_of}
use Rattle.saving.specs.declared.format.Row.{Row}
use Rattle.loading.specs.Entry.{entry_at, body_at}
use Rattle.loading.specs.Loads.{ImageAs, Foreign}
use Rattle.image.specs.Locates.{Absent, Locates}

-- the bytes are the image of m in the edition of the row, in which the number n lives at `place`; and the part is the body of that place, and stands where its entry says
pub record Found (s : List ℕ) (n : ℕ) (part : List ℕ) : Type 0 where
  pub row : Row
  pub m : Model
  pub image : ImageAs row m s
  pub place : ℕ
  pub lives : lives_at m place ≡ true
  pub number : (thread m place).number ≡ n
  pub body : part ≡ body_of row m place
  pub entry : ℕ
  pub named : get_or s (entry_at row entry) 0 ≡ place
  pub within : body_at row s entry + length part ≤ length s
  pub stands : part ≡ take (length part) (drop (body_at row s entry) s)

pub data Sees (s : List ℕ) (n : ℕ) (part : List ℕ) : Type 0 where
  found : Found s n part → Sees s n part
  absent : Absent s n → part ≡ [] → Sees s n part
  refused : Foreign s → part ≡ [] → Sees s n part

-- and where it lies: in the image lent, at the offset that locating gives. (Two threads may have equal bodies: the bytes alone do not tell whose part it is.)
pub record Lies (s : List ℕ) (n : ℕ) (base at : ℕ × ℕ) (part : List ℕ) : Type 0 where
  pub code : ℕ
  pub offset : ℕ
  pub located : Locates s n code offset (length part)
  pub block : at.0 ≡ base.0
  pub from : at.1 ≡ base.1 + offset
