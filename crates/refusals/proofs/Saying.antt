-- An answer that is the promised one says the promised numbers.
use mathlib.Core.Path.{◌≡◌, ap}

pub says-too : {Answer Said : Type 0} (says : Answer → Said) {given promised : Answer} → given ≡ promised → (given ≡ promised) × (says given ≡ says promised)
says-too says e = (e, ap says e)
