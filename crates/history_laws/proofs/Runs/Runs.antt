-- A run has only values that a text can give.
use Rattle.std.proofs.Common.{refl, sym, subst, arith}
use Rattle.std.specs.Prelude.{◌≡◌, ℕ, ◌+◌, ◌<◌, suc, Bool, true, false, List, [], ◌∷◌, All, length, reverse, if◌then◌else◌}
use Rattle.std.proofs.lemmas.List.Elements.{All-nil, All-cons, All-head, All-tail}
use Rattle.kube_objects.specs.declared.objects.Object.{Object}
use Rattle.kube_objects.specs.Keys.{key_cmp, key_of, put_row}
use Rattle.call_types.specs.declared.entry.Entry.{Entry}
use Rattle.call_types.specs.declared.setup.Setup.{Setup}
use Rattle.binder_model.specs.Answers.{is_user}
use Rattle.binder_model.specs.Imports.{imported_object, is_dropped, rows_of_imports}
use Rattle.binder_model.specs.Told.{own}
use Rattle.binder_model.specs.Promises.{most_entries}
use Rattle.binder_model.specs.Run.{Run}
use Rattle.binder_model.specs.World.{base, first_world, world}
use Rattle.model_laws.proofs.Imported.{pass_base}
use Rattle.object_laws.specs.Given.{IsGivenObject}
use Rattle.history_laws.specs.Read.Given.{IsRequest, IsReply, IsEvent, IsEntry, IsSetup}
use Rattle.history_laws.specs.Runs.Keeping.{IsEpoch, IsMount, IsGivenWorld}
use Rattle.history_laws.specs.Runs.Laws.{IsAskedGiven, RunsGive, RunTextsHaveOne}
use Rattle.history_laws.proofs.Runs.Lists.{put_all, reverse_all}
use Rattle.history_laws.proofs.Runs.Objects.{imported_given}
use Rattle.history_laws.proofs.Runs.Effects.{calls_keep_given}
use Rattle.history_laws.proofs.Runs.Told.{own_all}
use Rattle.history_laws.proofs.Runs.Asking.{licensed_ask_given}
use Rattle.history_laws.proofs.Runs.Texts.{has_one}

rows_given : (imports os : List Object) → All IsGivenObject os → All IsGivenObject (rows_of_imports imports os)
rows_given imports [] h = h
rows_given imports (o ∷ os) h = by (is_dropped o) (rows_given imports os (All-tail IsGivenObject o os h))
  where
    by : (b : Bool) → All IsGivenObject (rows_of_imports imports os) → All IsGivenObject (if b then rows_of_imports imports os else put_row (imported_object imports o) (rows_of_imports imports os))
    by true rest = rest
    by false rest = put_all key_cmp key_of IsGivenObject _ _ (imported_given imports o (All-head IsGivenObject o os h)) rest

first_given : (setup : Setup) → IsSetup setup → IsGivenWorld (base setup + 0) (first_world setup)
first_given setup is = record {
  store = record { rows = rows_given setup.imports setup.imports is.imports; version = omega arith };
  moment = refl;
  log = All-nil IsEvent;
  devices = record { epochs = All-nil (IsEpoch _); mounts = All-nil IsMount; calls = omega arith };
}

pub record IsGivenPast (setup : Setup) (past : List Entry) : Type 0 where
  pub entries : All IsEntry past
  pub world : IsGivenWorld (base setup + length past) (world setup past)

one_more : (n m : ℕ) → (n + m) + 1 ≡ n + suc m
one_more n m = omega arith

pub past_given : (setup : Setup) (past : List Entry) → IsSetup setup → length past < most_entries → All IsAskedGiven past → Run setup past → IsGivenPast setup past
past_given setup [] is short asked run = record { entries = All-nil IsEntry; world = first_given setup is }
past_given setup (e ∷ past) is short asked run =
    let rest = past_given setup past is (omega (arith, short)) (All-tail IsAskedGiven e past asked) run.0 in
    let here = All-head IsAskedGiven e past asked in
    let request : IsRequest e.request = by here rest.entries (is_user e.kind) refl in
    let low = pass_base [] setup.imports is.passing in
    let next = calls_keep_given setup (base setup + length past) (world setup past) e.kind e.request is (omega (arith, low, short)) rest.world request in
    record {
      entries = All-cons IsEntry e past (record { seat = here.seat; request = request; reply = subst IsReply (sym run.1) next.reply }) rest.entries;
      world = subst (λ (n : ℕ). IsGivenWorld n (world setup (e ∷ past))) (one_more (base setup) (length past)) next.world;
    }
  where
    by : IsAskedGiven e → All IsEntry past → (b : Bool) → is_user e.kind ≡ b → IsRequest e.request
    by here all true u = here.request u
    by here all false u = licensed_ask_given e.kind (own e.seat past) e.request u (own_all e.seat past all) run.2

pub runs_give : RunsGive
runs_give setup past h = record { setup = h.setup_given; entries = reverse_all IsEntry past (past_given setup past h.setup_given h.short h.asked h.run).entries }

pub run_texts_have_one : RunTextsHaveOne
run_texts_have_one setup past lines h = has_one setup (reverse past) lines (runs_give setup past h)
