-- Where something came after, it came.
use Rattle.std.proofs.Common.{List, [], ◌∷◌, inl, inr}
use Rattle.call_types.specs.declared.entry.Entry.{Entry}
use Rattle.binder_model.specs.Told.{After, SomeOf}

pub after_some : (P : List Entry → Type 0) (Q : Entry → Type 0) (xs : List Entry) → After P Q xs → SomeOf Q xs
after_some P Q [] h = elim h [ ]
after_some P Q (x ∷ xs) (inl p) = inl p.0
after_some P Q (x ∷ xs) (inr h) = inr (after_some P Q xs h)
