-- The examples compute.
use Rattle.std.proofs.Common.{◌≡◌, refl, arith}
use Rattle.binder_model.specs.Fields.{create_fault, faulty, kind_fault}
use Rattle.binder_model.specs.Imports.{import_fault, fault_if, fault_of_field}
use Rattle.script_runs.specs.Examples.{BudgetExamples, FateExamples, LimitExamples, PartExamples, SeatExamples}

pub fates : FateExamples
fates = record { told_before_them = refl; lost_after = refl; told_between_them = refl; lost_before = refl; not_lost_the_other_way = λ e. absurd (cc) }

pub parts : PartExamples
parts = record {
  the_first_begins_after_the_users = refl;
  a_life_more_for_each_restart = refl;
  restarts_in_the_order_of_lines = refl;
  the_lost_calls = refl;
  losses_are_of_one_actor = refl;
  without_turns_it_has_no_life = refl;
  and_takes_no_seat = refl;
  the_next_begins_after_all_lives = refl;
  not_after_the_first_life_alone = λ e. absurd (cc);
  not_in_the_order_of_lines = λ e. absurd (cc);
  later_kinds_come_later = refl;
  its_kind = refl;
  its_lives = refl;
  its_lost_calls = refl;
  protection_comes_after_its_lives = refl;
  not_after_its_first_life = λ e. absurd (cc);
  schedulers_come_after_ops = refl;
  not_before_binders = λ e. absurd (cc);
  they_schedule = refl;
  claims_come_after_binders = refl;
  they_protect_claims = refl;
  volumes_come_after_claims = refl;
  not_before_them = λ e. absurd (cc);
  agents_have_theirs = refl;
  agents_come_after_workers = refl;
  an_agent_has_a_life_more_for_each_restart = refl;
  the_lost_calls_of_an_agent = refl;
  agents_by_the_names_of_nodes = refl;
  not_in_the_order_of_their_turns = λ e. absurd (cc);
  an_agent_without_turns_has_no_life = refl;
}

pub seats : SeatExamples
seats = record { drains_come_after_all_lives = refl; a_seat_for_each_node = refl; none_where_no_node_is = refl; after_a_scheduler_too = refl; a_scheduler_takes_a_seat = λ e. absurd (cc) }

pub budgets : BudgetExamples
budgets = record {
  an_object_counts_one = refl;
  a_pod_counts_its_claims = refl;
  each_pod_by_itself = λ e. absurd (cc);
  faults_behind_do_not_count = refl;
  two_objects_and_a_fault = refl;
  an_empty_world = refl;
  faults_ahead_raise_it = refl;
  it_grows_at_each_drain = refl;
  never_above_the_most = refl;
  not_by_the_whole_there = λ (e : 133120 ≡ 135048). absurd (omega (arith, e));
  up_to_the_most = refl;
  a_given_one_stays = refl;
  also_above_the_most = refl;
  nothing_before_the_first_drain = refl;
  but_what_was_given = refl;
}

pub limits : LimitExamples
unfolding import_fault fault_if fault_of_field create_fault faulty kind_fault
limits = record {
  within = record {
    imports = tt;
    lines = (omega arith, (omega arith, (tt, (tt, (tt, (tt, (tt, (tt, (tt, tt)))))))));
    few = omega arith;
    objects = omega arith;
    nodes = omega arith;
    order = ((refl, tt), (tt, tt));
    known = (tt, (tt, (tt, (tt, (tt, (tt, (tt, (tt, (tt, tt)))))))));
  };
  the_last_user_and_the_most_calls = ((omega arith, omega arith), (omega arith, tt));
  no_fifth_user = λ h. let fifth = h.1.0.1 in absurd (omega (arith, fifth));
  no_user_before_the_first = λ h. let none = h.0.0 in absurd (omega (arith, none));
  no_longer_turn = λ h. let turn = h.lines.0 in absurd (omega (arith, turn));
  no_ninth_node = λ h. let nodes = h.nodes in absurd (omega (arith, nodes));
  agents_of_its_nodes = record {
    imports = tt;
    lines = (omega arith, (tt, (tt, (omega arith, (omega arith, tt)))));
    few = omega arith;
    objects = omega arith;
    nodes = omega arith;
    order = ((refl, (refl, tt)), ((refl, tt), (tt, tt)));
    known = (refl, (refl, (refl, (refl, (tt, tt)))));
  };
  no_other_agent = λ h. let known = h.known.0 in absurd (cc);
  no_node_twice = λ h. let order = h.order.0.0 in absurd (cc);
  no_other_order = λ h. let order = h.order.0.0 in absurd (cc);
  an_import = record { imports = (refl, tt); lines = tt; few = omega arith; objects = omega arith; nodes = omega arith; order = (tt, tt); known = tt };
  none_without_a_uid = λ h. let imports = h.imports.0 in absurd (cc);
}
