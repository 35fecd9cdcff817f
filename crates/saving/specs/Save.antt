-- What saving promises, of any state and any buffer (document 01, "When the nucleus says no": 14, then 7), and that no second outcome meets it.
use Rattle.std.specs.Prelude.{ℕ, ◌≤◌, ◌<◌, ◌≡◌, List, ◌++◌, length, drop}
use Rattle.std.proofs.Common.{sym, ap, ◌∙◌, arith, length-append, length-drop}
use Rattle.nucleus.specs.View.{view, Consists}
use Rattle.nucleus.specs.declared.State.{State}
use Rattle.saving.specs.Format.{encode}

-- the code, the length, and what the buffer holds afterwards
pub record Gives (code len : ℕ) (after : List ℕ) (c n : ℕ) (a : List ℕ) : Type 0 where
  pub code_is : c ≡ code
  pub length_is : n ≡ len
  pub bytes_are : a ≡ after

pub data Saves (s : State) (before : List ℕ) (c n : ℕ) (a : List ℕ) : Type 0 where
  -- 14: state given is not consistent. Length 0, buffer unchanged.
  inconsistent : (Consists s → ⊥) → Gives 14 0 before c n a → Saves s before c n a
  -- 7: buffer shorter than the image. Length 0, buffer unchanged.
  short : Consists s → length before < length (encode (view s)) → Gives 7 0 before c n a → Saves s before c n a
  -- Save leaves all bytes past the image as they were.
  saved : Consists s → length (encode (view s)) ≤ length before → Gives 0 (length (encode (view s))) (encode (view s) ++ drop (length (encode (view s))) before) c n a → Saves s before c n a

-- ---- one outcome: code, length and every byte
pub record Same (c n : ℕ) (a : List ℕ) (d m : ℕ) (b : List ℕ) : Type 0 where
  pub code_same : c ≡ d
  pub length_same : n ≡ m
  pub bytes_same : a ≡ b

same : {code len : ℕ} {after : List ℕ} {c n : ℕ} {a : List ℕ} {d m : ℕ} {b : List ℕ} → Gives code len after c n a → Gives code len after d m b → Same c n a d m b
same g h = record { code_same = g.code_is ∙ sym h.code_is; length_same = g.length_is ∙ sym h.length_is; bytes_same = g.bytes_are ∙ sym h.bytes_are }

pub save_one : {s : State} {before : List ℕ} {c n : ℕ} {a : List ℕ} {d m : ℕ} {b : List ℕ} → Saves s before c n a → Saves s before d m b → Same c n a d m b
save_one (inconsistent k g) (inconsistent l h) = same g h
save_one (inconsistent k g) (short l i h) = absurd (k l)
save_one (inconsistent k g) (saved l i h) = absurd (k l)
save_one (short k e g) (inconsistent l h) = absurd (l k)
save_one (short k e g) (short l i h) = same g h
save_one (short k e g) (saved l i h) = absurd (omega arith)
save_one (saved k e g) (inconsistent l h) = absurd (l k)
save_one (saved k e g) (short l i h) = absurd (omega arith)
save_one (saved k e g) (saved l i h) = same g h

-- a buffer is as long as it was
pub save_length : {s : State} {before a : List ℕ} {c n : ℕ} → Saves s before c n a → length a ≡ length before
save_length (inconsistent k g) = ap length g.bytes_are
save_length (short k h g) = ap length g.bytes_are
save_length {s} {before} (saved k h g) =
    let i : List ℕ = encode (view s) in
    let d = length-drop (length i) before in
    let l = length-append i (drop (length i) before) in
    ap length g.bytes_are ∙ omega arith
