-- The members of edits and topologies are canonical, and nest no deeper than is said.
use Rattle.std.proofs.Common.{ℕ, suc, List, Option, Some, None, true, codes}
use Rattle.json_text.specs.Build.{Good, GoodPairs}
use Rattle.json_text.specs.Members.{object_of}
use Rattle.json_text.proofs.Good.{good_boolean, good_object_of, good_string}
use Rattle.call_types.specs.declared.edit.Edit.{Edit}
use Rattle.call_types.specs.declared.edit.Edit.TheVariants as edits
use Rattle.history_text.specs.Requests.{two_texts, edit_pairs}
use Rattle.history_text.specs.Replies.{topology_pairs}

pub good_topology : (n : ℕ) (t : Option (List ℕ × List ℕ)) → GoodPairs n (topology_pairs t)
good_topology n None = tt
good_topology n (Some t) = (good_string, (good_string, tt))

good_label : (n : ℕ) (a x b y : List ℕ) → Good (suc n) (object_of (two_texts a x b y))
good_label n a x b y = good_object_of n (two_texts a x b y) (good_string, (good_string, tt))

pub good_edit : (n : ℕ) (edit : Edit) → GoodPairs (suc n) (edit_pairs edit)
good_edit n (edits.AddFinalizer s) = (good_string, tt)
good_edit n (edits.DropFinalizer s) = (good_string, tt)
good_edit n (edits.DropLabel s) = (good_string, tt)
good_edit n (edits.DropAnnotation s) = (good_string, tt)
good_edit n (edits.SetLabel k v) = (good_label n (codes "key") k (codes "value") v, tt)
good_edit n (edits.SetAnnotation k v) = (good_label n (codes "key") k (codes "value") v, tt)
good_edit n (edits.SetVolumeName s) = (good_string, tt)
good_edit n (edits.SetPolicy p) = (good_string, tt)
good_edit n (edits.SetClaimRef namespace name) = (good_label n (codes "name") name (codes "namespace") namespace, tt)
good_edit n edits.ClearClaimRef = (good_boolean true, tt)
