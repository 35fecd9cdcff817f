-- Saving and loading undo each other: load gives back the state that was saved, and saving what load accepted of
-- the newest edition gives back the bytes. Assumes nothing.
use Rattle.std.specs.Prelude.{◌≡◌, refl, List, ◌++◌, ℕ, ◌≤◌, length, take, drop, get_or}
use Rattle.std.proofs.Common.{sym, ap, subst, ◌∙◌, arith, take_at}
use Rattle.nucleus.specs.View.{view, Consists}
use Rattle.nucleus.specs.Settled.{settled}
use Rattle.nucleus.specs.declared.State.{State}
use Rattle.saving.specs.Format.{newest, encode_as, encode}
use Rattle.saving.specs.Editions.{known_one, newest_known}
use Rattle.saving.specs.Save.{Saves, inconsistent, short, saved}
use Rattle.saving.specs.declared.format.Row.{Row}
use Rattle.loading.specs.Loads.{Loads}
use Rattle.loading.specs.Finds.{edition_is}
use Rattle.loading.specs.Judges.{saved_image}
use Rattle.loading.proofs.Accepts.{accepts, accepted_of, loads_back}
use Rattle.loading.specs.declared.Loaded.{Loaded}

-- with room for its image, a consistent state is saved with code 0
pub saves_well : {s : State} {before a : List ℕ} {c n : ℕ} → Consists s → length (encode (view s)) ≤ length before → Saves s before c n a → (c ≡ 0) × Saves s before 0 n a
saves_well k h (inconsistent n g) = absurd (n k)
saves_well k h (short l i g) = absurd (omega arith)
saves_well {s} {before} {a} {c} {n} k h (saved l i g) = (g.code_is, subst (λ (x : ℕ). Saves s before x n a) g.code_is (saved l i g))

-- what was saved with code 0: the image, at the front of the buffer
pub front_image : {t : State} {before a : List ℕ} {n : ℕ} → Saves t before 0 n a → Consists t × (encode (view t) ≡ take n a)
front_image (inconsistent k g) = let e = g.code_is in absurd (omega arith)
front_image (short k h g) = let e = g.code_is in absurd (omega arith)
front_image {t} {before} (saved k h g) =
    let e : encode (view t) ≡ take (length (encode (view t))) (encode (view t) ++ drop (length (encode (view t))) before) =
    sym (take_at (encode (view t)) (drop (length (encode (view t))) before) (length (encode (view t))) refl) in
    (k, rw (g.length_is, g.bytes_are) e)

-- a state is saved, and the bytes of the image loaded: 0, and the same state
pub saved_loads : {t : State} {before a : List ℕ} {n : ℕ} {r : Loaded} → Saves t before 0 n a → Loads (take n a) r → (r.code ≡ 0) × (r.state ≡ t)
saved_loads {t} {r = r} S L =
    let f = front_image S in
    let I = saved_image f.0.consistent f.1 in
    let b = loads_back (view t) I L in
    ((accepts L).1 (view t, I), settled r.state t b.consists f.0 b.seen)

-- bytes of the newest edition are loaded with code 0, and the state saved with code 0: the same bytes, in front of what the buffer held behind them
pub loaded_saves : {s before a : List ℕ} {n : ℕ} {r : Loaded} → Loads s r → r.code ≡ 0 → get_or s 0 0 ≡ newest.edition → Saves r.state before 0 n a → take n a ≡ s
loaded_saves {r = r} L z e S =
    let T = accepted_of L z in
    let row = T.image.0 in
    let I = T.image.1 in
    let k : row ≡ newest = known_one I.known newest_known (sym (edition_is I) ∙ e) in
    sym (front_image S).1 ∙ ap (λ (w : Row). encode_as w (view r.state)) (sym k) ∙ I.bytes
