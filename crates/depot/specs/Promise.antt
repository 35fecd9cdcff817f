-- WHAT THE DEPOT IS TOLD (document 02, P7), for any bytes whatever: the code, the length, and every byte of the buffer. That this settles the answer is shown
-- in Once.antt.
use Rattle.std.specs.Prelude.{◌≡◌, List, ◌++◌, cond, ℕ, ◌≤◌, ◌<◌, ltb, length, drop}
use Rattle.rules.specs.Model.{Code, Model}
use Rattle.loading.specs.Loads.{Image, Refuses}
use Rattle.depot.specs.Report.{Finding, refused, loaded, text_of}
use Rattle.depot.specs.declared.Sheet.{Sheet}
use Rattle.depot.specs.declared.Told.{Told}

-- An image's length stands in two bytes.
abbrev pub image_limit : ℕ
image_limit = 65535

-- What an image comes to: 8 over 65,535 bytes, before anything else is looked at; then load's refusals; else the state whose image it is.
pub data Finds (image : List ℕ) (x : Finding) : Type 0 where
  too_long : image_limit < length image → x ≡ refused 8 → Finds image x
  unloaded : length image ≤ image_limit → (c : Code) → Refuses image c → x ≡ refused c → Finds image x
  found : length image ≤ image_limit → (m : Model) → Image m image → x ≡ loaded m → Finds image x

-- If a text doesn't fit: 7, length 0, buffer unchanged. Else 0, its length, and the text in front of what the buffer held behind it.
abbrev pub handed : List ℕ → List ℕ → Told × List ℕ
handed t out =
    cond (ltb (length out) (length t)) (record { code = 7; length = 0 }, out)
    (record { code = 0; length = length t }, t ++ drop (length t) out)

-- the answer, and the buffer then
pub record Tells (s : Sheet) (image log out : List ℕ) (t : Told × List ℕ) : Type 0 where
  pub finding : Finding
  pub finds : Finds image finding
  pub told : t ≡ handed (text_of s finding log) out
