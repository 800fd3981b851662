-- The rules, computed.
use Rattle.std.specs.Prelude.{◌≡◌, ◌⊎◌, Bool, true, false, [], codes, bytes_eq, is_some}
use Rattle.std.proofs.Common.{refl, sym, ap, inl, inr, arith, true≢false}
use Rattle.kube_objects.specs.Bindings.{is_delete, is_empty}
use Rattle.snapshot_bind.specs.declared.calls.SnapReply.{SnapReply}
use Rattle.snapshot_bind.specs.declared.calls.SnapReply.TheVariants.{Refused}
use Rattle.snapshot_bind.specs.Licences.{SnapLicensed}
use Rattle.snapshot_bind.specs.SideStore.{claimed_data, cut, cut_from, data_in, effect_of, refuse, worker_effect}
use Rattle.snapshot_law.specs.RuleExamples.{ApartExamples, BoundExamples, ErasedExamples, RunExamples}
use Rattle.snapshot_law.proofs.LicenceExamples.{is_this}

-- what holds of one of one
one : {A : Type 0} → A ⊎ ⊥ → A
one (inl a) = a
one (inr none) = absurd none

pub bound_examples : BoundExamples
bound_examples = record {
  names_none = λ some. absurd (some refl);
  names_its_own = λ some. inr (inl (record { named = refl; own = refl; stands = refl }));
  absent = λ is. true≢false (sym (ap (bytes_eq (codes "k")) (one (is named)).named));
  of_another_uid = λ is. true≢false (ap (is_this 2) (one (is named)).own);
  without_uid = λ is. true≢false (sym (ap is_some (one (is named)).own));
  without_data = λ is. true≢false (sym (one (is named)).stands);
}
  where
    named : codes "k" ≡ [] → ⊥
    named e = true≢false (sym (ap is_empty e))

pub apart_examples : ApartExamples
apart_examples = record {
  one = (tt, tt);
  beside_a_waiting_one = ((λ some e. some (sym e), tt), (tt, tt));
  two_that_name_none = ((λ some e. some refl, tt), (tt, tt));
  two_of_one_content = λ apart. apart.0.0 (λ e. true≢false (sym (ap is_empty e))) refl;
}

pub erased_examples : ErasedExamples
erased_examples = record {
  gone = (refl, tt);
  beside_another = (refl, (λ same. let e : 3 ≡ 1 = same in omega (arith, e), tt));
  refused = tt;
  its_snapshot_stands = λ may. may.1.0 refl;
  retained = λ may. true≢false (sym (ap is_delete may.0));
  never_bound = λ may. may.1;
}

abbrev is_refused : SnapReply → Bool
is_refused (Refused why) = true
is_refused _ = false

pub run_examples : RunExamples
unfolding effect_of worker_effect refuse cut cut_from claimed_data data_in SnapLicensed
run_examples = record {
  cut_after_a_list = (((tt, refl, inl refl), refl, inr tt), refl, inr (inl (inl (record { placed = refl; named = refl; own = refl; waits = record { stays = refl; unbound = refl } }))));
  cut_by_anothers_list = λ run. elim run.2 [ inl users ↦ true≢false (sym users) | inr none ↦ none ];
  cut_without_a_list = λ run. elim run.2 [ inl users ↦ true≢false (sym users) | inr none ↦ none ];
  wrong_answer = λ run. true≢false (ap is_refused run.1);
}
