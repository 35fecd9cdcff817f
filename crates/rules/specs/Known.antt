-- What it comes to that a number stands for a place or a device, or for none.
use Rattle.std.specs.Prelude.{◌≡◌, Option, Some, None, is_some, false, ℕ}
use Rattle.std.proofs.Common.{sym, ap, ◌∙◌, arith}
use Rattle.lists.specs.Lists.{none}
use Rattle.rules.specs.Values.{place_known, device_known}
use Rattle.rules.specs.declared.Place.{Place}
use Rattle.rules.specs.declared.Device.{Device}

no_place_is : (x : ℕ) → place_known x ≡ None → x ≡ none
no_place_is x e = grind arith

place_is : (x : ℕ) {p : Place} → place_known x ≡ Some p → (p.0 ≡ x) × (x ≡ none → ⊥)
place_is x e = grind arith

none_place_is : (x : ℕ) → is_some (place_known x) ≡ false → x ≡ none
none_place_is x e = grind arith

-- a number that is not none stands for a place
pub place_at : {x i : ℕ} → x ≡ i → (i ≡ none → ⊥) → Some (record { 0 = i }) ≡ place_known x
place_at e n = grind arith

pub place_not : {x : ℕ} → x ≡ none → None ≡ place_known x
place_not e = grind arith

no_device_is : (x : ℕ) → device_known x ≡ None → x ≡ none
no_device_is x e = grind arith

device_is : (x : ℕ) {i : Device} → device_known x ≡ Some i → (i.0 ≡ x) × (x ≡ none → ⊥)
device_is x e = grind arith

pub device_at : {x i : ℕ} → x ≡ i → (i ≡ none → ⊥) → Some (record { 0 = i }) ≡ device_known x
device_at e n = grind arith

pub device_not : {x : ℕ} → x ≡ none → None ≡ device_known x
device_not e = grind arith

module _ {o : Option Place} {x : ℕ} (e : o ≡ place_known x) where
  pub place_none : o ≡ None → x ≡ none
  place_none f = no_place_is x (sym e ∙ f)

  pub place_some : {p : Place} → o ≡ Some p → (p.0 ≡ x) × (x ≡ none → ⊥)
  place_some f = place_is x (sym e ∙ f)

  pub place_no : is_some o ≡ false → x ≡ none
  place_no f = none_place_is x (ap is_some (sym e) ∙ f)

module _ {o : Option Device} {x : ℕ} (e : o ≡ device_known x) where
  pub device_none : o ≡ None → x ≡ none
  device_none f = no_device_is x (sym e ∙ f)

  pub device_some : {i : Device} → o ≡ Some i → (i.0 ≡ x) × (x ≡ none → ⊥)
  device_some f = device_is x (sym e ∙ f)
