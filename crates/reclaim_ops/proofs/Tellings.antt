-- An answer that tells no object leaves what is newest.
use Rattle.std.proofs.Common.{◌≡◌, ◌∙◌, List, ◌∷◌, Bool, true, false, Option, None, refl, ap, if◌then◌else◌}
use Rattle.kube_objects.specs.declared.key.Key.{Key}
use Rattle.kube_objects.specs.declared.objects.Object.{Object}
use Rattle.call_types.specs.declared.entry.Entry.{Entry}
use Rattle.call_types.specs.declared.reply.Reply.{Reply}
use Rattle.binder_model.specs.Told.{IsNewest, Telling, later, newest, object_of, tells_of}

-- an answer that tells nothing of the key
pub still_newest : (mine : List Entry) (e : Entry) (reply : Reply) (key : Key) (o : Object) → e.reply ≡ reply → tells_of e.request reply key ≡ None → IsNewest mine key o → IsNewest (e ∷ mine) key o
still_newest mine e reply key o is none newest_is = ap (λ (t : Option Telling). object_of (later t (newest mine key))) (told_none e.told) ∙ newest_is
  where
    told_none : (b : Bool) → (if b then tells_of e.request e.reply key else None) ≡ None
    told_none true = ap (λ r. tells_of e.request r key) is ∙ none
    told_none false = refl
