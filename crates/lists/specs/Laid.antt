-- Bytes laid into a buffer at a position, all others as they were. Assumes nothing.
use Rattle.std.specs.Prelude.{◌≡◌, refl, List, [], ◌∷◌, ◌++◌, ℕ, suc, ◌+◌, ◌≤◌, ◌<◌, length, take, drop, set}
use Rattle.std.proofs.Common.{sym, ap, subst, ◌∙◌, append_assoc, append-nil, add-one, arith, length-append, length-take, length-drop, take-append-drop, length-take-le, take_at, drop_at, take-take, drop-drop}
use Rattle.std.proofs.Math.Seq.{take-length, paste}
use Rattle.std.proofs.lemmas.List.{take-append-le, set_split}

-- xs laid into s at a position
abbrev pub laid : List ℕ → ℕ → List ℕ → List ℕ
laid s at xs = take at s ++ (xs ++ drop (at + length xs) s)

-- t is s with xs laid at a position, and r the position behind
pub record Wrote (s : List ℕ) (at : ℕ) (xs t : List ℕ) (r : ℕ) : Type 0 where
  pub next : r ≡ at + length xs
  pub bytes : t ≡ laid s at xs

pub laid_none : (s : List ℕ) (at : ℕ) → laid s at [] ≡ s
laid_none s at = let e : at + 0 ≡ at = omega arith in rw e (take-append-drop at s)

pub laid_length : (s : List ℕ) (at : ℕ) (xs : List ℕ) → at + length xs ≤ length s → length (laid s at xs) ≡ length s
laid_length s at xs h = simp (length-append, length-take, length-drop) (omega arith)

-- at the front
pub laid_front : (s xs : List ℕ) → laid s 0 xs ≡ xs ++ drop (length xs) s
laid_front s xs = let e : 0 + length xs ≡ length xs = omega arith in ap (λ (n : ℕ). xs ++ drop n s) e

-- one more behind
laid_more : (s : List ℕ) (at : ℕ) (xs ys : List ℕ) → at + length xs + length ys ≤ length s
    → laid (laid s at xs) (at + length xs) ys ≡ laid s at (xs ++ ys)
laid_more s at xs ys h =
    let a : length (take at s ++ xs) ≡ at + length xs = simp (length-append, length-take) (omega arith) in
    let e : laid s at xs ≡ (take at s ++ xs) ++ drop (at + length xs) s = sym (append_assoc (take at s) xs (drop (at + length xs) s)) in
    let k : length (xs ++ ys) ≡ length xs + length ys = length-append xs ys in
    let j : at + (length xs + length ys) ≡ at + length xs + length ys = omega arith in
    let t : take (at + length xs) (laid s at xs) ≡ take at s ++ xs = rw e (take_at (take at s ++ xs) (drop (at + length xs) s) (at + length xs) a) in
    let d : drop (at + length xs + length ys) (laid s at xs) ≡ drop (at + length xs + length ys) s =
    sym (drop-drop (length ys) (at + length xs) (laid s at xs))
    ∙ ap (drop (length ys)) (rw e (drop_at (take at s ++ xs) (drop (at + length xs) s) (at + length xs) a))
    ∙ drop-drop (length ys) (at + length xs) s in
    rw (t, d, k, j) (simp append_assoc)

-- one more before
laid_before : (s : List ℕ) (at : ℕ) (xs ys : List ℕ) → at + length xs + length ys ≤ length s
    → laid (laid s (at + length xs) ys) at xs ≡ laid s at (xs ++ ys)
laid_before s at xs ys h =
    let a : length (take (at + length xs) s) ≡ at + length xs = length-take-le (at + length xs) s (omega arith) in
    let k : length (xs ++ ys) ≡ length xs + length ys = length-append xs ys in
    let j : at + (length xs + length ys) ≡ at + length xs + length ys = omega arith in
    let t : take at (laid s (at + length xs) ys) ≡ take at s =
    take-append-le at (take (at + length xs) s) (ys ++ drop (at + length xs + length ys) s) (omega arith) ∙ take-take at (at + length xs) s (omega arith) in
    let d : drop (at + length xs) (laid s (at + length xs) ys) ≡ ys ++ drop (at + length xs + length ys) s =
    drop_at (take (at + length xs) s) (ys ++ drop (at + length xs + length ys) s) (at + length xs) a in
    rw (t, d, k, j) (simp append_assoc)

-- a store, and a copy
pub laid_one : (s : List ℕ) (at x : ℕ) → at < length s → set s at x ≡ laid s at (x ∷ [])
laid_one s at x h = let e : at + 1 ≡ suc at = add-one at in rw e (set_split s at x h)

pub laid_pasted : (s : List ℕ) (at : ℕ) (xs : List ℕ) (i : ℕ) → i ≡ length xs → paste s at xs i ≡ laid s at xs
laid_pasted s at xs i e = rw (e, take-length xs) (append_assoc (take at s) xs (drop (at + length xs) s))

-- ---- one after the other
pub wrote_then : {s t u xs ys : List ℕ} {at r v : ℕ} → Wrote s at xs t r → Wrote t r ys u v → at + length xs + length ys ≤ length s → Wrote s at (xs ++ ys) u v
wrote_then {s} {t} {u} {xs} {ys} {at} {r} {v} p q h = record {
  next = let a = p.next in let b = q.next in let k = length-append xs ys in omega arith;
  bytes = q.bytes ∙ rw (p.bytes, p.next) (laid_more s at xs ys h);
}

-- two arrays, of which it is known what they hold
pub wrote_both : {s t u a b xs ys : List ℕ} {at r v : ℕ} → Wrote s at a t r → Wrote t r b u v → a ≡ xs → b ≡ ys → at + (length xs + length ys) ≤ length s → Wrote s at (xs ++ ys) u v
wrote_both p q e f h = let i = ap length e in let j = ap length f in rw (← e, ← f) (wrote_then p q (omega arith))

-- the front is written last
pub wrote_front : {s t u hs xs : List ℕ} {at e v : ℕ} → Wrote s at xs t e → Wrote t 0 hs u v → length hs ≡ at → at + length xs ≤ length s → u ≡ (hs ++ xs) ++ drop e s
wrote_front {s} {t} {u} {hs} {xs} {at} {e} p q i h =
    let z : 0 + length hs ≡ at = omega arith in
    let k = length-append hs xs in
    let n : e ≡ 0 + length (hs ++ xs) = let a = p.next in omega arith in
    q.bytes ∙ ap (λ (x : List ℕ). laid x 0 hs) (p.bytes ∙ ap (λ (j : ℕ). laid s j xs) (sym z)) ∙ laid_before s 0 hs xs (omega arith) ∙ ap (λ (j : ℕ). (hs ++ xs) ++ drop j s) (sym n)

-- ---- on the way: what is left to write, ys, takes the buffer t at r to f, and the position to e
pub record Going (f : List ℕ) (e : ℕ) (t : List ℕ) (r : ℕ) (ys : List ℕ) : Type 0 where
  pub bytes : f ≡ laid t r ys
  pub ends : e ≡ r + length ys
  pub room : e ≤ length t
  pub whole : length f ≡ length t

pub going_start : (s : List ℕ) (at : ℕ) (xs : List ℕ) → at + length xs ≤ length s → Going (laid s at xs) (at + length xs) s at xs
going_start s at xs h = record { bytes = refl; ends = refl; room = h; whole = laid_length s at xs h }

pub going_by : {f t xs ys : List ℕ} {e r : ℕ} → Going f e t r xs → xs ≡ ys → Going f e t r ys
going_by {f} {t} {e = e} {r = r} g i = subst (λ (z : List ℕ). Going f e t r z) i g

pub going_room : {f t : List ℕ} {e r : ℕ} (ys zs : List ℕ) → Going f e t r (ys ++ zs) → r + length ys ≤ length t
going_room ys zs g = let k = length-append ys zs in let n = g.ends in let m = g.room in omega arith

pub going_more : {f t u ys zs : List ℕ} {e r v : ℕ} → Going f e t r (ys ++ zs) → Wrote t r ys u v → Going f e u v zs
going_more {f} {t} {u} {ys} {zs} {e} {r} {v} g w =
    let k = length-append ys zs in
    let n = g.ends in
    let m = g.room in
    let i : r + length ys + length zs ≤ length t = omega arith in
    let o : length u ≡ length t = ap length w.bytes ∙ laid_length t r ys (omega arith) in
    record {
      bytes = g.bytes ∙ rw (w.bytes, w.next) (sym (laid_more t r ys zs i));
      ends = let a = w.next in omega arith;
      room = omega arith;
      whole = g.whole ∙ sym o;
    }

pub going_end : {s xs t : List ℕ} {at r : ℕ} → Going (laid s at xs) (at + length xs) t r [] → Wrote s at xs t r
going_end {t = t} {r = r} g = record { next = let a = g.ends in omega arith; bytes = sym (g.bytes ∙ laid_none t r) }

-- the last part
pub going_last : {s xs t ys u : List ℕ} {at r v : ℕ} → Going (laid s at xs) (at + length xs) t r ys → Wrote t r ys u v → Wrote s at xs u v
going_last {ys = ys} g w = going_end (going_more {ys = ys} {zs = []} (rw append-nil g) w)
