-- Phases that no row lets a controller write.
use Rattle.std.proofs.Common.{ℕ, List, Option, false}
use Rattle.kube_objects.specs.declared.key.Key.{Key}
use Rattle.call_types.specs.declared.entry.Entry.{Entry}
use Rattle.binder_model.specs.At.{IsWrittenAt}
use Rattle.binder_model.specs.Licence.{AtClaimKey, AtVolumeKey}
use Rattle.licence_rows.proofs.Asks.{claim_told, volume_told}
use Rattle.licence_record.specs.Judged.{Judges}
use Rattle.licence_record.proofs.Judging.{no}

pub no_volume : (w : Type 0) (mine : List Entry) (key : Key) (given : Option ℕ) → Judges w false (AtVolumeKey mine key given (λ o. ⊥))
no_volume w mine key given = no _ _ (λ x h. (volume_told (λ o. IsWrittenAt given key.namespace key.name o.meta × ⊥) mine h.1).1.1)

pub no_claim : (w : Type 0) (mine : List Entry) (key : Key) (given : Option ℕ) → Judges w false (AtClaimKey mine key given (λ o. ⊥))
no_claim w mine key given = no _ _ (λ x h. (claim_told (λ o. IsWrittenAt given key.namespace key.name o.meta × ⊥) mine h.1).1.1)
