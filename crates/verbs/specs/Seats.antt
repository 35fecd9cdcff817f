-- A place is filled: the stores that make a newcomer of whatever stood there.
use Rattle.std.proofs.Common.{ap, ◌∙◌, arith}
use Rattle.std.specs.Prelude.{List, ℕ, ◌<◌}
use Rattle.lists.specs.Tables.{length_tab}
use Rattle.rules.specs.Values.{nobody}
use Rattle.rules.specs.Model.{places, Ready, Model, ready}
use Rattle.rules.specs.Rules.{put, stands, told, join, woken, newcomer}
use Rattle.table.specs.Cells.{thread_of, model_of, Whole}
use Rattle.table.specs.Rows.{with_byte}
use Rattle.table.specs.Stores.{Named, Raised}
use Rattle.table.specs.Stores as Stores
use Rattle.verbs.specs.Steps.{Steps, changing, then, wrote, twice}

-- p takes the newcomer n, with the parent pa, which goes to the back of ready
abbrev pub seated : ℕ → ℕ → ℕ → Model → Model
seated p n pa m = join ready p (put p (newcomer n pa) m)

module _ {b w l : List ℕ} (k : Whole b w l) {p : ℕ} (h : p < places) {b₁ w₁ b₂ w₂ : List ℕ} {n pa : ℕ} (e : Named b w p n b₁ w₁) (f : Raised b₁ w₁ p pa b₂ w₂) where
  pub named : Steps b w l b₂ w₂ l (changing p (λ t. with_byte 5 pa (with_byte 0 n t)))
  named =
      let s = Stores.named k.blocks k.words h e in
      wrote k h (Stores.wrote_then s (Stores.raised s.blocks s.words h f))

  pub seats : {b₃ w₃ l₃ : List ℕ} → Steps b₂ w₂ l b₃ w₃ l₃ (woken p 0 nobody 0) → Steps b w l b₃ w₃ l₃ (seated p n pa)
  seats t = record {
    whole = t.whole;
    seen = λ y x.
        let v = length_tab places (thread_of b w) in
        (then named t).seen y x
        ∙ ap (join ready p) (twice (λ u. with_byte 5 pa (with_byte 0 n u)) (λ u. stands Ready nobody 0 (told 0 nobody 0 u)) (model_of y x b w l) p (omega arith));
  }
