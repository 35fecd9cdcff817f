-- Ready, while an event acts: what stays of it, in its order, and behind that those who join.
use Rattle.std.specs.Prelude.{ℕ, ◌≡◌, refl, ◌≢◌, List, [], ◌∷◌, ◌++◌, eqb}
use Rattle.std.proofs.Common.{sym, arith, get_or-set_same, get_or-set_other, eqb-true, eq-eqb}
use Rattle.std.proofs.Math.Path.{subst⁻¹}
use Rattle.std.proofs.Math.Decide.{ℕ_discrete}
use Rattle.lists.specs.Lists.{bit, count, among, without}
use Rattle.lists.specs.Laws.{by_test, never}
use Rattle.lists.specs.Counts.{count_append, none_among, among_some}
use Rattle.lists.specs.Without.{without_append, without_behind, without_other}
use Rattle.lists.specs.Tables.{bit_low}
use Rattle.rules.specs.Model.{Empty, Running, Ready, Sending, Waiting, AtDevice, Model, ready, clock, device, inbox, thread, line, all_places}
use Rattle.rules.specs.Rules.{place_of, leave, out_of_line, end_at, idle, starts, dispatched}
use Rattle.rules.specs.Consistent.{belongs}
use Rattle.order.specs.Sound.{Sound, member}
use Rattle.order.specs.Stood.{line_distinct}
use Rattle.order.specs.Ahead.{same_front}
use Rattle.order.specs.Moves.{Waits, Step}
use Rattle.order.specs.HandBack.{handed_all}
use Rattle.order.specs.Order.{written_at}
use Rattle.order.specs.Grown.{Remains, Grown}
use Rattle.order.specs.Grown.Remains.{nothing, stays, goes}

-- ---- a list that has grown, and of which one is taken out
pub remains_all : (l : List ℕ) → Remains l l
remains_all [] = nothing
remains_all (x ∷ l) = stays (remains_all l)

remains_without : (p : ℕ) {old kept : List ℕ} → Remains old kept → Remains old (without p kept)
remains_without p nothing = nothing
remains_without p (stays {p = x} r) = let ih = remains_without p r in by_test (eqb x p) (λ e. rw e (goes r)) (λ e. rw e (stays ih))
remains_without p (goes r) = goes (remains_without p r)

grown_without : (p : ℕ) (old new : List ℕ) → Grown old new → Grown old (without p new)
grown_without p old new G =
    by_test (among p G.kept)
    (λ t. record {
      kept = without p G.kept;
      joined = G.joined;
      remains = remains_without p G.remains;
      behind = rw G.behind (without_append p G.kept G.joined t);
      newcomers = G.newcomers;
    })
    (λ t. record {
      kept = G.kept;
      joined = without p G.joined;
      remains = G.remains;
      behind = rw G.behind (without_behind p G.kept G.joined t);
      newcomers = λ s h. by_test (among s G.joined) (λ u. G.newcomers s u) (λ u. never h (without_other p s G.joined u));
    })

-- ---- ready, while an event acts

-- whoever is ready goes on waiting, no further back: so the others have joined behind
pub grows : (m k : Model) → Sound m → Sound k → ((s : ℕ) → (thread m s).standing ≡ Ready → Waits m k s) → Grown (line m ready) (line k ready)
grows m k S T w = record {
  kept = line m ready;
  joined = f.0;
  remains = remains_all (line m ready);
  behind = f.1;
  newcomers = λ p h. none_among p (line m ready) (
      let a = among_some p f.0 h in
      let b = count_append p (line m ready) f.0 in
      let c : count p (line m ready ++ f.0) ≡ bit (belongs k (thread k p) ready) = rw (← f.1) (T.stood p ready) in
      let d = bit_low (belongs k (thread k p) ready) in
      omega arith);
}
  where
    f : (r : List ℕ) × (line k ready ≡ line m ready ++ r)
    f = same_front (line m ready) (line k ready) (line_distinct m S ready) (λ s i.
        let st : (thread m s).standing ≡ Ready = eqb-true _ _ (member m S s ready i) in
        let v = w s st in
        (rw (T.stood s ready, v.0, st) (omega arith), v.1))

pub steps : (m k : Model) → Sound m → Step m k → Grown (line m ready) (line k ready)
steps m k S F = grows m k S F.kept.sound F.waits

module _ (old : List ℕ) where
  abbrev pub Grew : Model → Type 0
  Grew m = Grown old (line m ready)

  -- one leaves a line
  grew_leave : (m : Model) → Sound m → (q p : ℕ) → Grew m → Grew (leave q p m)
  grew_leave m S q p g = elim (ℕ_discrete q ready) [
    | yes e ↦ rw (e, get_or-set_same m.lines ready (without p (line m ready)) [] (omega (arith, S.lines))) (grown_without p old (line m ready) g)
    | no n ↦ rw (get_or-set_other m.lines q ready (without p (line m q)) [] (λ z. n (sym z))) g
  ]

  grew_out : (m : Model) → Sound m → (p : ℕ) → Grew m → Grew (out_of_line p m)
  grew_out m S p g =
      let st = (thread m p).standing in
      by_test (eqb st Running) (λ a. rw a g) (λ a.
      by_test (eqb st Ready) (λ b. rw (a, b) (grew_leave m S ready p g)) (λ b.
      by_test (eqb st Sending) (λ c. rw (a, b, c) (grew_leave m S (inbox (place_of m (thread m p).partner)) p g)) (λ c.
      by_test (eqb st Waiting) (λ d. rw (a, b, c, d) (grew_leave m S clock p g)) (λ d.
      by_test (eqb st AtDevice) (λ e. rw (a, b, c, d, e) (grew_leave m S (device (thread m p).partner) p g)) (λ e. rw (a, b, c, d, e) g)))))

  -- the front is started
  grew_start : (m : Model) → Sound m → Grew m → (l : List ℕ) → line m ready ≡ l → Grew (starts l m)
  grew_start m S g [] e = g
  grew_start m S g (x ∷ l) e = rw (get_or-set_same m.lines ready l [] (omega (arith, S.lines))) (
      let h = grown_without x old (line m ready) g in
      rw (e, eq-eqb x x refl) at h)

  pub grew_dispatched : (m : Model) → Sound m → Grew m → Grew (dispatched m)
  grew_dispatched m S g = by_test (idle m) (λ t. rw t (grew_start m S g (line m ready) refl)) (λ t. rw t g)

-- ---- one thread ends
pub end_grown : (m : Model) → Sound m → (p n : ℕ) → (thread m p).standing ≢ Empty → (thread m p).number ≡ n → Grown (line m ready) (line (end_at p n m) ready)
end_grown m S p n live number =
    let F = (handed_all m S n p live number all_places).0 in
    subst⁻¹ (λ (k : Model). Grown (line m ready) (line k ready)) (written_at m S p n live number) (grew_out (line m ready) _ F.kept.sound p (steps m _ S F))
