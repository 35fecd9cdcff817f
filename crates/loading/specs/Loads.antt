-- What load promises, of any bytes whatever (document 01, "When the nucleus says no", rows 8, 9 and 10). That it settles the answer, and that 0 is given for
-- the images of consistent states and for nothing else, is shown in Accepts.antt.
use Rattle.std.specs.Prelude.{◌≡◌, ◌≢◌, List, Bool, true, false, cond, ℕ, eqb, ltb, length, get_or}
use Rattle.lists.specs.Bytes.{two_at}
use Rattle.rules.specs.Model.{Model}
use Rattle.rules.specs.Rules.{fresh}
use Rattle.rules.specs.Consistent.{ConsistentBy}
use Rattle.nucleus.specs.View.{view, ConsistsBy, Shows}
use Rattle.saving.specs.Format.{row_of, Known, Holds, shortest_head, total_at, head_length, encode_as}
use Rattle.saving.specs.declared.format.Row.{Row}
use Rattle.loading.specs.declared.Loaded.{Loaded}

-- the row of the edition that byte 0 names
abbrev pub row_at : List ℕ → Row
row_at s = row_of (get_or s 0 0)

-- Load: 8 for under 8 bytes, 9, 8 for the length field .. (After 9, 8 also for bytes that end within that edition's head.)
abbrev pub head_code : List ℕ → ℕ
head_code s =
    cond (ltb (length s) shortest_head) 8
    (cond (eqb (row_at s).queues 0) 9
    (cond (ltb (length s) (head_length (row_at s))) 8
    (cond (eqb (two_at s (total_at (row_at s))) (length s)) 0 8)))

-- The bytes are the image of the consistent m in the edition of the row, which is known and can hold m. Consistent by the rules as they are, or (strict is
-- false) by the old ones, as in all that follows: load goes by the first, and the update load, which comes to the same otherwise, by the others.
pub record ImageAsBy (strict : Bool) (row : Row) (m : Model) (s : List ℕ) : Type 0 where
  pub known : Known row
  pub consistent : ConsistentBy strict m
  pub holds : Holds row m
  pub bytes : encode_as row m ≡ s

-- in some edition
abbrev pub ImageBy : Bool → Model → List ℕ → Type 0
ImageBy strict m s = (row : Row) × ImageAsBy strict row m s

-- .. 10: the bytes are the image of no consistent state
abbrev pub ForeignBy : Bool → List ℕ → Type 0
ForeignBy strict s = (m : Model) → ImageBy strict m s → ⊥

-- a refusal gives the fresh state
pub record Refused (code : ℕ) (r : Loaded) : Type 0 where
  pub told : r.code ≡ code
  pub state : Shows r.state fresh

-- 0, and the state whose image it is
pub record TakenBy (strict : Bool) (s : List ℕ) (r : Loaded) : Type 0 where
  pub told : r.code ≡ 0
  pub consists : ConsistsBy strict r.state
  pub image : ImageBy strict (view r.state) s

-- bytes whose head is in order
pub data JudgedBy (strict : Bool) (s : List ℕ) (r : Loaded) : Type 0 where
  foreign : ForeignBy strict s → Refused 10 r → JudgedBy strict s r
  accepted : TakenBy strict s r → JudgedBy strict s r

pub data LoadsBy (strict : Bool) (s : List ℕ) (r : Loaded) : Type 0 where
  bad_head : head_code s ≢ 0 → Refused (head_code s) r → LoadsBy strict s r
  good_head : head_code s ≡ 0 → JudgedBy strict s r → LoadsBy strict s r

-- load refuses the bytes s with the code c, said without what it gives
pub data RefusesBy (strict : Bool) (s : List ℕ) (c : ℕ) : Type 0 where
  by_head : head_code s ≢ 0 → c ≡ head_code s → RefusesBy strict s c
  by_whole : head_code s ≡ 0 → ForeignBy strict s → c ≡ 10 → RefusesBy strict s c

-- ---- load itself: by the rules as they are

abbrev pub ImageAs : Row → Model → List ℕ → Type 0
ImageAs row m s = ImageAsBy true row m s

abbrev pub Image : Model → List ℕ → Type 0
Image m s = ImageBy true m s

abbrev pub Foreign : List ℕ → Type 0
Foreign s = ForeignBy true s

abbrev pub Loads : List ℕ → Loaded → Type 0
Loads s r = LoadsBy true s r

abbrev pub Refuses : List ℕ → ℕ → Type 0
Refuses s c = RefusesBy true s c

-- ---- what the update load starts from: by the old rules

abbrev pub OldImage : Model → List ℕ → Type 0
OldImage m s = ImageBy false m s

abbrev pub LoadsOld : List ℕ → Loaded → Type 0
LoadsOld s r = LoadsBy false s r

abbrev pub OldRefuses : List ℕ → ℕ → Type 0
OldRefuses s c = RefusesBy false s c
