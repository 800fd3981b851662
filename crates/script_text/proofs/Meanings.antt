-- The meaning of a line that names no actor is the same whatever agents are known, and objects are imported before any call.
use Rattle.std.proofs.Common.{◌≡◌, ℕ, List, Bool, true, false, Option, Some, None, Result, Ok, Err, IfOk, refl, ap, subst}
use Rattle.serde_json.specs.Data.{Data}
use Rattle.kube_parts.specs.declared.names.ImportFault.{ImportFault}
use Rattle.kube_objects.specs.declared.objects.Object.{Object}
use Rattle.binder_model.specs.Imports.{import_fault}
use Rattle.object_text.specs.declared.errors.Member.TheVariants as manifests
use Rattle.script_lines.specs.declared.line_member.LineMember.TheVariants as members
use Rattle.script_lines.specs.declared.errors.Reason.{Reason}
use Rattle.script_lines.specs.declared.errors.Reason.TheVariants.{BadValue}
use Rattle.script_lines.specs.Answers.{◌>>=◌, unless}
use Rattle.script_lines.specs.Members.{text_at, new_call_at, object_at, size_at, topology_at}
use Rattle.script_text.specs.declared.script.Line.{Line}
use Rattle.script_text.specs.declared.script.Meaning.{Meaning}
use Rattle.script_text.specs.declared.script.Meaning.TheVariants as meanings
use Rattle.plain_data.specs.Pairs.{Pair}
use Rattle.script_lines.specs.declared.verbs.Verb.{Verb}
use Rattle.script_lines.specs.declared.verbs.Verb.TheVariants as verbs
use Rattle.script_text.specs.Said.{Said, has_begun}
use Rattle.script_text.specs.LineReaders.{
  create_line,
  update_line,
  edit_line,
  delete_line,
  get_line,
  list_line,
  time_line,
  pool_line,
  fault_line,
  import_line,
  unless_fault,
  lose_line,
  restart_line,
  turn_line,
  verb_at,
  as_line,
  meaning_by,
  meaning_of,
}
use Rattle.script_text.specs.Steps.Indexed.{CanTake}
use Rattle.script_text.specs.Steps.Known.{IfNamed}

pub same_meaning : (verb : Verb) (known agents : List Pair) (said : Said) (d : Data) → IfNamed verb (known ≡ agents) → meaning_by verb known said d ≡ meaning_by verb agents said d
same_meaning verbs.Create known agents said d h = refl
same_meaning verbs.Update known agents said d h = refl
same_meaning verbs.Edit known agents said d h = refl
same_meaning verbs.Delete known agents said d h = refl
same_meaning verbs.Get known agents said d h = refl
same_meaning verbs.List known agents said d h = refl
same_meaning verbs.Time known agents said d h = refl
same_meaning verbs.Pool known agents said d h = refl
same_meaning verbs.Fault known agents said d h = refl
same_meaning verbs.Import known agents said d h = refl
same_meaning verbs.Lose known agents said d h = ap (λ a. meaning_by verbs.Lose a said d) (h refl)
same_meaning verbs.Restart known agents said d h = ap (λ a. meaning_by verbs.Restart a said d) (h refl)
same_meaning verbs.Turn known agents said d h = ap (λ a. meaning_by verbs.Turn a said d) (h refl)
same_meaning verbs.Drain known agents said d h = refl

-- ---- what can be taken

abbrev CanBe : List Line → Result Meaning Reason → Type 0
CanBe lines r = IfOk r (CanTake lines)

of_line : (lines : List Line) (r : Result Line Reason) → CanBe lines (as_line r)
of_line lines (Ok line) = tt
of_line lines (Err reason) = tt

of_pool : (lines : List Line) (d : Data) → CanBe lines (pool_line d)
unfolding pool_line
of_pool lines d = past (text_at (members.Of manifests.Name) d) _
    (λ name. past (text_at (members.Of manifests.Provisioner) d) _ (λ provisioner. past (size_at d) _ (λ amount. past (topology_at d) _ (λ topology. tt))))
  where
    past : {A : Type 0} (r : Result A Reason) (f : A → Result Meaning Reason) → ((a : A) → CanBe lines (f a)) → CanBe lines (r >>= f)
    past (Ok a) f k = k a
    past (Err reason) f k = tt

of_fault : (lines : List Line) (faults : List ℕ) (d : Data) → CanBe lines (fault_line faults d)
unfolding fault_line
of_fault lines faults d = by (new_call_at members.Call faults d)
  where
    by : (r : Result ℕ Reason) → CanBe lines (r >>= λ call. Ok (meanings.Fault call))
    by (Ok call) = tt
    by (Err reason) = tt

of_import : (lines : List Line) (before : List Object) (d : Data) → CanBe lines (import_line lines before d)
unfolding import_line
of_import lines before d = by (object_at d) (has_begun lines) refl
  where
    last : (object : Object) (fault : Option ImportFault) → has_begun lines ≡ false → CanBe lines (unless_fault fault object)
    last object None e = e
    last object (Some fault) e = tt

    by : (r : Result Object Reason) (b : Bool) → has_begun lines ≡ b → CanBe lines (r >>= λ object. unless b (BadValue members.Do) object >>= λ early. unless_fault (import_fault before early) early)
    by (Ok object) true e = tt
    by (Ok object) false e = last object (import_fault before object) e
    by (Err reason) b e = tt

by_verb : (verb : Verb) (agents : List Pair) (said : Said) (d : Data) → CanBe said.lines (meaning_by verb agents said d)
by_verb verbs.Create agents said d = of_line said.lines (create_line d)
by_verb verbs.Update agents said d = of_line said.lines (update_line d)
by_verb verbs.Edit agents said d = of_line said.lines (edit_line d)
by_verb verbs.Delete agents said d = of_line said.lines (delete_line d)
by_verb verbs.Get agents said d = of_line said.lines (get_line d)
by_verb verbs.List agents said d = of_line said.lines (list_line d)
by_verb verbs.Time agents said d = of_line said.lines (time_line d)
by_verb verbs.Pool agents said d = of_pool said.lines d
by_verb verbs.Fault agents said d = of_fault said.lines said.faults d
by_verb verbs.Import agents said d = of_import said.lines said.imports d
by_verb verbs.Lose agents said d = of_line said.lines (lose_line agents said.lines d)
by_verb verbs.Restart agents said d = of_line said.lines (restart_line agents said.lines d)
by_verb verbs.Turn agents said d = of_line said.lines (turn_line agents d)
by_verb verbs.Drain agents said d = tt

-- what a line means can be taken
pub meaning_can : (agents : List Pair) (said : Said) (d : Data) → CanBe said.lines (meaning_of agents said d)
unfolding meaning_of
meaning_can agents said d = by (verb_at d)
  where
    by : (r : Result Verb Reason) → CanBe said.lines (r >>= λ verb. meaning_by verb agents said d)
    by (Ok verb) = by_verb verb agents said d
    by (Err reason) = tt

pub can_take : (agents : List Pair) (said : Said) (d : Data) (meaning : Meaning) → meaning_of agents said d ≡ Ok meaning → CanTake said.lines meaning
can_take agents said d meaning e = subst (CanBe said.lines) e (meaning_can agents said d)
