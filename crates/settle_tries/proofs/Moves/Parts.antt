-- The slots of a round: the scheduler's, that of ops, and those behind.
use Rattle.std.proofs.Common.{◌≡◌, ◌∙◌, ℕ, List, [], ◌∷◌, Bool, true, refl, sym, ap, subst}
use Rattle.std.specs.Prelude.{map}
use Rattle.std.proofs.lemmas.Bool.{and_parts}
use Rattle.call_types.specs.declared.entry.Entry.{Entry}
use Rattle.call_types.specs.declared.request.SeatKind.TheVariants as seats
use Rattle.worker_core.specs.declared.role.Role.{Role}
use Rattle.worker_core.specs.Absorbs.{woken}
use Rattle.actor_rounds.specs.declared.drainers.Drainer.{Drainer}
use Rattle.actor_rounds.specs.Drainers.{AreRoles, agent_of, of_kind, roles_of}
use Rattle.actor_rounds.specs.Rounds.{Ends, IsRound, Lets, Runs, Turns}
use Rattle.std.specs.Prelude.{⊤}

abbrev pub roles_behind : List (List ℕ) → List Role
roles_behind nodes = of_kind seats.Binder ∷ of_kind seats.ClaimProtect ∷ of_kind seats.VolumeProtect ∷ map agent_of nodes

-- the slot of one drainer, and the round of those behind it
pub record HasSlot (lets : Lets) (past : List Entry) (left : ℕ) (ds : List Drainer) (h : List Entry) (b : ℕ) (after : List Drainer) : Type 0 where
  pub drainer : Drainer
  pub ran : Drainer
  pub behind : List Drainer
  pub later : List Drainer
  pub middle : List Entry
  pub rest : ℕ
  pub ds_are : ds ≡ drainer ∷ behind
  pub after_are : after ≡ ran ∷ later
  pub seat : ran.seat ≡ drainer.seat
  pub runs : Runs lets drainer.seat ran.actor middle rest true (woken drainer.actor) h b
  pub round : IsRound lets past left behind middle rest later true

abbrev pub IsAny : List Role → Type 0
IsAny [] = ⊥
IsAny (role ∷ roles) = ⊤

pub slot_of : (lets : Lets) (past : List Entry) (left : ℕ) (ds : List Drainer) (h : List Entry) (b : ℕ) (after : List Drainer) (whole : Bool)
    → IsRound lets past left ds h b after whole → whole ≡ true → IsAny (roles_of ds) → HasSlot lets past left ds h b after
slot_of lets past left _ h b _ _ (Ends entries rest) is_whole any = absurd any
slot_of lets past left _ h b _ _ (Turns {ds = ds} {after = after} {whole = whole} d ran middle rest idle seat runs more) is_whole any =
    let parts = and_parts idle whole is_whole in
    record {
      drainer = d;
      ran = ran;
      behind = ds;
      later = after;
      middle = middle;
      rest = rest;
      ds_are = refl;
      after_are = refl;
      seat = seat;
      runs = subst (λ i. Runs lets d.seat ran.actor middle rest i (woken d.actor) h b) parts.0 runs;
      round = subst (λ w. IsRound lets past left ds middle rest after w) parts.1 more;
    }

-- the first two, and what their roles are
pub record HasParts (lets : Lets) (past : List Entry) (left : ℕ) (ds : List Drainer) (h : List Entry) (b : ℕ) (after : List Drainer) : Type 0 where
  pub first : HasSlot lets past left ds h b after
  pub second : HasSlot lets past left first.behind first.middle first.rest first.later
  pub nodes : List (List ℕ)
  pub scheduler : first.drainer.actor.role ≡ of_kind seats.Scheduler
  pub ops : second.drainer.actor.role ≡ of_kind seats.Ops
  pub others : roles_of second.behind ≡ roles_behind nodes

abbrev pub role_or : Role → List Role → Role
role_or r [] = r
role_or r (role ∷ roles) = role

abbrev pub rest_of_roles : List Role → List Role
rest_of_roles [] = []
rest_of_roles (role ∷ roles) = roles

pub parts_of : (lets : Lets) (past : List Entry) (left : ℕ) (ds : List Drainer) (h : List Entry) (b : ℕ) (after : List Drainer)
    → AreRoles (roles_of ds) → IsRound lets past left ds h b after true → HasParts lets past left ds h b after
parts_of lets past left ds h b after roles round =
    let first = slot_of lets past left ds h b after true round refl (subst IsAny (sym roles.are) tt) in
    let split : first.drainer.actor.role ∷ roles_of first.behind ≡ of_kind seats.Scheduler ∷ of_kind seats.Ops ∷ roles_behind roles.nodes = sym (ap roles_of first.ds_are) ∙ roles.are in
    let behind : roles_of first.behind ≡ of_kind seats.Ops ∷ roles_behind roles.nodes = ap rest_of_roles split in
    let second = slot_of lets past left first.behind first.middle first.rest first.later true first.round refl (subst IsAny (sym behind) tt) in
    let again : second.drainer.actor.role ∷ roles_of second.behind ≡ of_kind seats.Ops ∷ roles_behind roles.nodes = sym (ap roles_of second.ds_are) ∙ behind in
    record {
      first = first;
      second = second;
      nodes = roles.nodes;
      scheduler = ap (role_or first.drainer.actor.role) split;
      ops = ap (role_or second.drainer.actor.role) again;
      others = ap rest_of_roles again;
    }
