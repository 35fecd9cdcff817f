-- What the verbs promise of the lent arrays: they are whole again, and stand for what the rule's verb makes of the model before. And what a store,
-- a join, a leave and a pop are in the model. A verb neither asks for nor promises consistency: in the middle of an event there is none.
use Rattle.std.specs.Prelude.{◌≡◌, refl, List, [], ◌∷◌, ◌++◌, ℕ, ◌<◌, length}
use Rattle.std.proofs.Common.{sym, ap, ◌∙◌, get_or-set_same, set-set}
use Rattle.lists.specs.Lists.{without, tab}
use Rattle.lists.specs.Tables.{tab_set}
use Rattle.lines.specs.Lines.{line_of, Turned}
use Rattle.rules.specs.Model.{places, line_count, Thread, vacant, Model, thread}
use Rattle.rules.specs.Rules.{put, stands, told, relined, join, leave}
use Rattle.table.specs.Cells.{thread_of, model_of, shown, Whole, running}
use Rattle.table.specs.Rows.{thread_at, line_at}
use Rattle.table.specs.Stores.{Stood, Told, Stored}
use Rattle.table.specs.Stores as Stores
use Rattle.table.specs.declared.Arrays.{Arrays}
use Rattle.table.specs.declared.Desk.{Desk}

-- ---- what a verb promises

-- the arrays after (b', w', l') stand for what f makes of the model before, whoever runs and whatever number was last
pub record Steps (b w l b' w' l' : List ℕ) (f : Model → Model) : Type 0 where
  pub whole : Whole b' w' l'
  pub seen : (y x : ℕ) → model_of y x b' w' l' ≡ f (model_of y x b w l)

-- the same where the desk changes too; the set of filled places stays
pub record Turns (d : Desk) (b w l : List ℕ) (d' : Desk) (b' w' l' : List ℕ) (f : Model → Model) : Type 0 where
  pub whole : Whole b' w' l'
  pub filled : d'.filled ≡ d.filled
  pub seen : shown d' b' w' l' ≡ f (shown d b w l)

-- the same of the arrays as they are lent
abbrev pub StepsIn : Arrays → Arrays → (Model → Model) → Type 0
StepsIn a a' f = Steps a.table.blocks a.table.words a.lines a'.table.blocks a'.table.words a'.lines f

abbrev pub TurnsIn : Desk → Arrays → Desk → Arrays → (Model → Model) → Type 0
TurnsIn d a d' a' f = Turns d a.table.blocks a.table.words a.lines d' a'.table.blocks a'.table.words a'.lines f

-- the thread at p is another from now on
abbrev pub changing : ℕ → (Thread → Thread) → Model → Model
changing p f m = put p (f (thread m p)) m

-- ---- one step after another

pub then : {b w l b₁ w₁ l₁ b₂ w₂ l₂ : List ℕ} {f g : Model → Model} → Steps b w l b₁ w₁ l₁ f → Steps b₁ w₁ l₁ b₂ w₂ l₂ g → Steps b w l b₂ w₂ l₂ (λ m. g (f m))
then {g = g} s t = record { whole = t.whole; seen = λ y x. t.seen y x ∙ ap g (s.seen y x) }

-- the desk stays
pub stays : {d : Desk} {b w l b' w' l' : List ℕ} {f : Model → Model} → Steps b w l b' w' l' f → Turns d b w l d b' w' l' f
stays {d} s = record { whole = s.whole; filled = refl; seen = s.seen d.last.0 d.running.0 }

-- and then x runs
pub turns : {d e : Desk} {b w l b' w' l' : List ℕ} {f : Model → Model} {x : ℕ} (g : Model → Model) → Steps b w l b' w' l' f → e ≡ running x d
    → f (model_of d.last.0 x b w l) ≡ g (shown d b w l) → Turns d b w l e b' w' l' g
turns {d} {x = x} g s z e = record { whole = s.whole; filled = ap (λ (c : Desk). c.filled) z; seen = rw z (s.seen d.last.0 x ∙ e) }

-- ---- a store

abbrev model_as : ℕ → ℕ → List Thread → List (List ℕ) → Model
model_as y x ts ls = record { last = y; running = x; threads = ts; lines = ls }

module _ {b w l : List ℕ} (k : Whole b w l) {p : ℕ} (h : p < places) {b' w' : List ℕ} where
  pub wrote : {f : Thread → Thread} → Stored b w p f b' w' → Steps b w l b' w' l (changing p f)
  wrote {f} e = record {
    whole = record { blocks = e.blocks; words = e.words; lines = k.lines };
    seen = λ y x. ap (λ (ts : List Thread). model_as y x ts (tab line_count (line_of places l)))
        (tab_set vacant places (thread_of b w) (thread_of b' w') p _ h (e.here ∙ ap f (sym (thread_at y x b w l p h))) e.there);
  }

  pub stood : {st pa x : ℕ} → Stood b w p st pa x b' w' → Steps b w l b' w' l (changing p (stands st pa x))
  stood e = wrote (Stores.stood k.blocks k.words h e)

  pub heard : {co n x : ℕ} → Told b w p co n x b' w' → Steps b w l b' w' l (changing p (told co n x))
  heard e = wrote (Stores.heard k.blocks k.words h e)

-- two changes of one thread are one
pub twice : (f g : Thread → Thread) (m : Model) (p : ℕ) → p < length m.threads → changing p g (changing p f m) ≡ changing p (λ t. g (f t)) m
twice f g m p h = rw (get_or-set_same m.threads p (f (thread m p)) vacant h, set-set m.threads p (f (thread m p)) (g (f (thread m p))))

-- ---- a line

module _ {b w l : List ℕ} (k : Whole b w l) {q : ℕ} (h : q < line_count) {l' : List ℕ} where
  pub turned : {xs : List ℕ} → Turned places line_count l l' q xs → Steps b w l b w l' (relined q xs)
  turned {xs} t = record {
    whole = record { blocks = k.blocks; words = k.words; lines = t.tidy };
    seen = λ y x. ap (λ (ls : List (List ℕ)). model_as y x (tab places (thread_of b w)) ls) (tab_set [] line_count (line_of places l) (line_of places l') q xs h t.here t.others);
  }

  pub joined : {p : ℕ} → Turned places line_count l l' q (line_of places l q ++ (p ∷ [])) → Steps b w l b w l' (join q p)
  joined {p} t = record {
    whole = (turned t).whole;
    seen = λ y x. (turned t).seen y x ∙ ap (λ (ps : List ℕ). relined q (ps ++ (p ∷ [])) (model_of y x b w l)) (sym (line_at y x b w l q h));
  }

  pub left : (p : ℕ) → Turned places line_count l l' q (without p (line_of places l q)) → Steps b w l b w l' (leave q p)
  left p t = record {
    whole = (turned t).whole;
    seen = λ y x. (turned t).seen y x ∙ ap (λ (ps : List ℕ). relined q (without p ps) (model_of y x b w l)) (sym (line_at y x b w l q h));
  }
