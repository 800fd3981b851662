-- What is put behind a text.
use Rattle.std.proofs.Common.{◌≡◌, ℕ, List, Ok, Err, OnOk}
use Rattle.std.specs.declared.result.Result.{Result}
use Rattle.json_text.specs.Writing.{Writing, with_text}
use Rattle.piece_print.specs.Writing.{behind}
use Rattle.piece_print.proofs.Behind.{text_behind}

pub text_put : {T E : Type 0} (r : Result T E) (t s : List ℕ) (w v : Writing) → OnOk r (v ≡ with_text t w) → OnOk r (behind s v ≡ with_text t (behind s w))
text_put (Ok x) t s w v h = text_behind t s w v h
text_put (Err e) t s w v h = tt
