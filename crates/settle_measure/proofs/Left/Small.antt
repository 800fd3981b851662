-- What is left to do in small worlds, computed.
use Rattle.std.proofs.Common.{refl, arith}
use Rattle.binder_model.specs.BindWrites.{completed_with, taken_for, unbound_volume}
use Rattle.settle_measure.specs.Left.Small.{CountsOffers, FallsAsItBinds, FallsAsItLeaves, RisesWhereItMust}

pub falls_as_it_binds : FallsAsItBinds
unfolding taken_for completed_with
falls_as_it_binds = record { is_fresh = refl; is_available = refl; is_taken = refl; is_bound = refl; is_completed = refl; is_shown = refl }

pub counts_offers : CountsOffers
unfolding taken_for
counts_offers = record { beside_small = refl; taken_beside_small = refl; beside_wide = refl; taken_twice = refl }

pub falls_as_it_leaves : FallsAsItLeaves
unfolding taken_for completed_with
falls_as_it_leaves = record { is_free = refl; is_taken = refl; has_left = refl }

pub rises_where_it_must : RisesWhereItMust
unfolding taken_for completed_with unbound_volume
rises_where_it_must = record { unbound = omega arith; taken_back = omega arith }
