-- An update in the field (document 02, P2): the image that comes of it boots, and every send that was unanswered is so still, in its place with its word.
use Rattle.std.specs.Prelude.{◌≡◌, refl, List, ℕ, ltb, length, take, drop}
use Rattle.std.proofs.Common.{sym, ap, ◌∙◌, arith, take_at}
use Rattle.lists.specs.Laws.{by_test}
use Rattle.rules.specs.Model.{Model}
use Rattle.rules.specs.Rules.{updated}
use Rattle.saving.specs.Format.{encode}
use Rattle.loading.specs.Judges.{saved_image}
use Rattle.updating.proofs.Updates.{refuses_some, update_consistent, lost_nothing}
use Rattle.board.specs.Promise.{carried_on, Carries, untaken, took_over}
use Rattle.board.specs.declared.Carried.{Carried}
use Rattle.recovery.specs.Boots.Boarded.{begun}
use Rattle.recovery.specs.Updated.{CarriedOver}

-- with code 0 the buffer begins with the image
carried_image : (m : Model) (out : List ℕ) (t : Carried × List ℕ) → t ≡ carried_on m out → t.0.code ≡ 0 → encode m ≡ take t.0.length t.1
unfolding carried_on
carried_image m out t e z =
    by_test (ltb (length out) (length (encode m)))
    (λ u. let c : ◌≡◌ {A = ℕ} 7 0 = rw (e, u) at z in absurd (omega arith))
    (λ u. rw (e, u) (sym (take_at (encode m) (drop (length (encode m)) out) (length (encode m)) refl)))

pub update_boots : {image out a : List ℕ} {t : Carried} → Carries image out (t, a) → t.code ≡ 0 → CarriedOver image (take t.length a)
update_boots (untaken c R h) z = absurd (refuses_some R (ap (λ (x : Carried × List ℕ). x.0.code) (sym h) ∙ z))
update_boots {out = out} (took_over m I h) z = record {
  m = m;
  image_of = I;
  loads = lost_nothing m I.1.consistent;
  boots = begun (saved_image (update_consistent m I) (carried_image (updated m) out _ h z));
}
