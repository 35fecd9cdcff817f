-- DEMAND 3, as a terminal lives it, over what the public operations promise and nothing else: events come, the state is saved, later events are recorded; the
-- power fails at any byte of the log; the image is loaded and what is left of the log replayed; and so on, in any order, boot after boot.
use Rattle.std.specs.Prelude.{◌≡◌, List, [], ◌++◌, ℕ, ◌+◌, ◌≤◌, ◌<◌, length, take}
use Rattle.std.proofs.Common.{sym, ap, subst, ◌∙◌, append_assoc, append-nil, arith, length-append, length-take}
use Rattle.rules.specs.Rules.{fresh, choice, after}
use Rattle.rules.specs.Consistent.{Consistent}
use Rattle.rules.specs.declared.Event.{Event}
use Rattle.order.specs.Keeps.{AllFit}
use Rattle.order.proofs.Keeps.{fresh_consistent}
use Rattle.order.proofs.Always.{always}
use Rattle.journal.specs.Format.{record_of}
use Rattle.nucleus.specs.View.{view, Consists, Shows}
use Rattle.nucleus.specs.Settled.{shows_one}
use Rattle.nucleus.specs.declared.State.{State}
use Rattle.saving.specs.Format.{encode}
use Rattle.loading.specs.Loads.{Loads}
use Rattle.loading.specs.Judges.{saved_image}
use Rattle.loading.proofs.Accepts.{accepts, loads_back}
use Rattle.loading.proofs.RoundTrip.{front_image}
use Rattle.loading.specs.declared.Loaded.{Loaded}
use Rattle.logging.specs.Log.{limit, Parsed, log_of}
use Rattle.logging.specs.Promise.{Came, Replays, inconsistent, too_long, came}
use Rattle.logging.specs.Cut.{Rest, whole_in}
use Rattle.logging.specs.Cut.Rest.{none, half}
use Rattle.logging.proofs.Cut.{read_log, fit_append, fit_whole, whole_front}
use Rattle.logging.proofs.History.{session_leaves, after_append, holds_none, holds_on, holds_cut, holds_replayed}
use Rattle.logging.specs.declared.Replayed.{Replayed}
use Rattle.recovery.specs.Chain.{chain_fits, chain_shows}
use Rattle.recovery.specs.History.{Store, Lived, Back, Good, Alive, Unmoved}
use Rattle.recovery.specs.History.Store.{empty, stored}
use Rattle.recovery.specs.History.Lived.{born, went, saved, recorded, back}

module _ {es bs fs : List Event} {image log : List ℕ} {q : ℕ} (G : Good es bs fs image log q) where
  comes_back : (k : ℕ) → k ≤ q → {l : Loaded} {r : Replayed} → Loads image l → Replays l.state (take k log) r → Back bs (whole_in k fs) k l r
  comes_back k h L R =
      let C : Consistent (after bs fresh) = always bs fresh fresh_consistent G.fits in
      let I = saved_image C G.is_image in
      let a = holds_replayed G.holds (loads_back (after bs fresh) I L) k h R in
      let m : after (whole_in k fs) (after bs fresh) ≡ after (bs ++ whole_in k fs) fresh = sym (after_append bs (whole_in k fs) fresh) in
      record {
        loaded = (accepts L).1 (after bs fresh, I);
        state = record { consists = a.state.consists; seen = a.state.seen ∙ m };
        choice = a.choice ∙ ap choice m;
        records = a.records;
        bytes = a.bytes;
        code = a.code;
      }

-- a state that shows what came after
shows_after : {t : State} (es fs : List Event) → Shows t (after fs (after es fresh)) → Shows t (after (es ++ fs) fresh)
shows_after es fs S = record { consists = S.consists; seen = S.seen ∙ sym (after_append es fs fresh) }

abbrev Keeps : List Event → Store → Type 0
Keeps es empty = Unit {0}
Keeps es (stored bs fs image log q) = Good es bs fs image log q

keeps_on : (es gs : List Event) (k : Store) → Keeps es k → Keeps (es ++ gs) k
keeps_on es gs empty G = tt {0}
keeps_on es gs (stored bs fs image log q) G = record {
  is_image = G.is_image;
  fits = G.fits;
  holds = G.holds;
  unrecorded = G.unrecorded ++ gs;
  happened = ap (λ (l : List Event). l ++ gs) G.happened ∙ append_assoc (bs ++ fs) G.unrecorded gs;
}

lives : {es : List Event} {s : State} {k : Store} → Lived es s k → Alive es s × Keeps es k
lives (born S) = (record { state = S; fits = tt {0} }, tt {0})
lives (went {es = es} {fs = fs} {k = k} L c) =
    let a = lives L in
    (record { state = shows_after es fs (chain_shows a.0.state c); fits = fit_append es fs a.0.fits (chain_fits c) }, keeps_on es fs k a.1)
lives (saved {es = es} {log = log} L S) =
    let a = lives L in (
      a.0,
      record {
        is_image = ap encode (sym a.0.state.seen) ∙ (front_image S).1;
        fits = a.0.fits;
        holds = holds_none log;
        unrecorded = [];
        happened = sym (append-nil (es ++ []) ∙ append-nil es);
      },
    )
lives (recorded {t = t} {es = es} {bs = bs} {fs = fs} {gs = gs} L e z) =
    let a = lives L in
    let A = a.0 in
    let G = a.1 in
    let l = session_leaves A.state.consists G.holds.within G.holds.short z in
    let S : Shows t (after gs (after es fresh)) = record { consists = l.state.consists; seen = l.state.seen ∙ ap (after gs) A.state.seen } in (
      record { state = shows_after es gs S; fits = fit_append es gs A.fits l.fits },
      record {
        is_image = G.is_image;
        fits = G.fits;
        holds = holds_on G.holds A.state.consists z;
        unrecorded = [];
        happened = ap (λ (l : List Event). l ++ gs) e ∙ append_assoc bs fs gs ∙ sym (append-nil (bs ++ (fs ++ gs)));
      },
    )
lives (back {bs = bs} {fs = fs} {k = k} L h l r e b) =
    let G = (lives L).1 in
    let B = comes_back G k h l r in (
      record { state = B.state; fits = fit_append bs (whole_in k fs) G.fits (fit_whole k fs G.holds.fits) },
      record {
        is_image = G.is_image;
        fits = G.fits;
        holds = holds_cut G.holds k h B.bytes e b;
        unrecorded = [];
        happened = sym (append-nil (bs ++ whole_in k fs));
      },
    )

-- saves, recordings and power failures among them, in any number and order; and the words of these events have 32 bits
pub lived : {es : List Event} {s : State} {k : Store} → Lived es s k → Alive es s
lived L = (lives L).0

-- ---- demand 3
module _ {es bs fs : List Event} {s : State} {image log : List ℕ} {q : ℕ} (life : Lived es s (stored bs fs image log q)) where
  -- For every cut of the recorded bytes: exactly the rules' state after the events before the save and those later ones whose records are whole in the cut (what
  -- `whole_in` leaves of them is said by `whole_front`: as many from the front as fit), with that many records and their bytes counted, and 0 between records or
  -- 12 inside one.
  pub history : (k : ℕ) → k ≤ q → {l : Loaded} {r : Replayed} → Loads image l → Replays l.state (take k log) r → Back bs (whole_in k fs) k l r
  history = comes_back (lives life).1

  -- And that is the front of what has happened: nothing is made up, and what is missing is an end of it.
  pub front_back : (k : ℕ) → (lost : List Event) × (es ≡ (bs ++ whole_in k fs) ++ lost)
  front_back k =
      let G = (lives life).1 in
      let f = whole_front k fs in
      let w : List Event = whole_in k fs in
      let z : bs ++ fs ≡ (bs ++ w) ++ f.others = ap (λ (l : List Event). bs ++ l) f.same ∙ sym (append_assoc bs w f.others) in
      (f.others ++ G.unrecorded, G.happened ∙ ap (λ (l : List Event). l ++ G.unrecorded) z ∙ append_assoc (bs ++ w) f.others G.unrecorded)

-- replay of whole records and a rest, as far as the log is no longer than a log may be
replay_of : {s : State} (es : List Event) (rest : List ℕ) {c : ℕ} {r : Replayed} → Consists s → AllFit es → Rest rest c → length (log_of es ++ rest) ≤ limit
    → Replays s (log_of es ++ rest) r → Came (view s) (record { events = es; stop = length (log_of es); code = c }) r
replay_of es rest k f z h (inconsistent n a) = absurd (n k)
replay_of es rest k f z h (too_long l g a) = absurd (omega arith)
replay_of {s} es rest {c} {r} k f z h (came l g a) = subst (λ (p : Parsed). Came (view s) p r) (read_log es rest c f z) a

pub no_half : {s : State} (es : List Event) (e : Event) (j : ℕ) {r u : Replayed} → Consists s → AllFit es → 0 < j → j < length (record_of e) → length (log_of es) + j ≤ limit
    → Replays s (log_of es ++ take j (record_of e)) r → Replays s (log_of es ++ []) u → Unmoved r u
no_half es e j k f h g b R U =
    let l = length-append (log_of es) (take j (record_of e)) in
    let m = length-take j (record_of e) in
    let n = length-append (log_of es) [] in
    let x = replay_of es (take j (record_of e)) k f (half e j h g) (omega arith) R in
    let y = replay_of es [] k f none (omega arith) U in
    record {
      state = shows_one x.state y.state;
      choice = x.choice ∙ sym y.choice;
      records = x.records ∙ sym y.records;
      bytes = x.bytes ∙ sym y.bytes;
      half = x.code;
      whole = y.code;
    }
