-- What a decision on a key may cost in a round, by the rows with which the round began and the volumes that may be made in it: so no write makes
-- it cost more.
use Rattle.std.proofs.Common.{◌≡◌, ◌≢◌, ◌∙◌, ◌⊎◌, ℕ, ◌+◌, ◌*◌, ◌≤◌, List, [], ◌∷◌, length, Bool, true, false, true≢false, Option, Some, None, inl, inr, refl, sym, ap, subst, arith, if◌then◌else◌}
use Rattle.std.specs.Prelude.{◌||◌}
use Rattle.std.specs.List.{list_any}
use Rattle.kube_objects.specs.declared.key.Key.{Key}
use Rattle.kube_parts.specs.declared.parts.Kind.{Kind}
use Rattle.kube_parts.specs.declared.parts.Kind.TheVariants as kinds
use Rattle.kube_objects.specs.declared.objects.Object.{Object}
use Rattle.kube_objects.specs.declared.objects.Object.TheVariants.{Class, Node, Volume, Claim, Pod}
use Rattle.kube_objects.specs.declared.objects.Volume.{Volume as VolumeData}
use Rattle.kube_objects.specs.Bindings.{is_ended}
use Rattle.kube_objects.specs.Keys.{AreRows, is_of_kind, key_of, kind_index, kind_of, row_at, same_key, same_kind}
use Rattle.kube_objects.proofs.KeyOrder.{row_at-put_row, row_at-put_row_other, row_at-without_row, row_at-without_row_other, row_at_key}
use Rattle.kube_objects.proofs.SameKeys.{key_tells, same_key-Decides, same_key_itself}
use Rattle.call_types.specs.declared.request.SeatKind.{SeatKind}
use Rattle.call_types.specs.declared.request.SeatKind.TheVariants as seats
use Rattle.model_laws.proofs.Lists.{IsIn}
use Rattle.settle_measure.specs.Left.Measure.{total}
use Rattle.worker_core.specs.Roles.{kinds_of}
use Rattle.settle_calls.specs.Tasks.Costs.{calls_for, calls_if, key_cost}
use Rattle.settle_calls.proofs.Events.Rows.{weigh_if}
use Rattle.settle_calls.specs.Slots.Rounds.{names_in}
use Rattle.settle_write_counts.proofs.Rounds.Growth.{AreGiven, Comes, IsFor, IsGiven, IsMade, IsOld, IsOver, given_first, made_keys, made_kind, moved_given}
use Rattle.settle_write_counts.proofs.Rounds.Nodes.{IsMoved}
use Rattle.settle_round_calls.specs.Slots.Costs.{claim_calls, made_calls, own_calls, pod_calls, volume_calls}

-- ---- the costs

abbrev pub is_agent : SeatKind → Bool
is_agent seats.Agent = true
is_agent kind = false

-- a key costs ops and an agent by what stands there now, any other by what stood there when the round began
abbrev pub is_now : SeatKind → Bool
is_now seats.Ops = true
is_now seats.Agent = true
is_now kind = false

-- and one that was written in the slot no more than that
abbrev pub key_calls : SeatKind → ℕ
key_calls seats.Binder = 3
key_calls seats.Ops = 3
key_calls seats.Scheduler = 1
key_calls seats.ClaimProtect = 2
key_calls seats.VolumeProtect = 1
key_calls seats.Agent = 3
key_calls seats.User = 0

-- seven calls pay for an event: for the decision on its key, and for the pass that tells it, which watches each kind that the actor follows
pub event_calls : (kind : SeatKind) → key_calls kind + length (kinds_of kind) ≤ 7
event_calls seats.User = omega arith
event_calls seats.Binder = omega arith
event_calls seats.Ops = omega arith
event_calls seats.Scheduler = omega arith
event_calls seats.ClaimProtect = omega arith
event_calls seats.VolumeProtect = omega arith
event_calls seats.Agent = omega arith

-- the key is that of a volume that may be made
abbrev pub is_fresh : List Object → Key → Bool
is_fresh first key = list_any (same_key key) (made_keys first)

abbrev pub fresh_cost : ℕ → Bool → ℕ
fresh_cost n b = if b then n else 0

-- by what stood at the key when the round began
abbrev pub cost_or : ℕ → SeatKind → Option Object → ℕ
cost_or fresh kind None = fresh
cost_or fresh kind (Some o) = own_calls kind o

abbrev pub stood_cost : SeatKind → List Object → Key → ℕ
stood_cost kind first key = cost_or (fresh_cost (made_calls kind) (is_fresh first key)) kind (row_at key first)

-- by what stands now for an agent, whose pods leave, and for ops, by which no volume ends
abbrev pub cost_by : Bool → SeatKind → List Object → List Object → Key → ℕ
cost_by true kind first rows key = weigh_if (own_calls kind) (row_at key rows)
cost_by false kind first rows key = stood_cost kind first key

abbrev pub cost_in : SeatKind → List Object → List Object → Key → ℕ
cost_in kind first rows key = cost_by (is_now kind) kind first rows key

-- what the objects of a kind may cost an actor at most, with the volumes that may be made
abbrev pub picked : SeatKind → Kind → Object → ℕ
picked kind k o = if is_of_kind k o then own_calls kind o else 0

abbrev pub made_most : SeatKind → List Object → Kind → ℕ
made_most kind first k = if same_kind k kinds.PersistentVolume then length (made_keys first) * made_calls kind else 0

abbrev pub most : SeatKind → List Object → Kind → ℕ
most kind first k = total (picked kind k) first + made_most kind first k

-- ---- one object

-- but for an agent and ops by its kind alone
abbrev plain_pod : SeatKind → ℕ
plain_pod seats.Scheduler = 1
plain_pod kind = 0

abbrev plain_of : SeatKind → Kind → ℕ
plain_of kind kinds.PersistentVolume = made_calls kind
plain_of kind kinds.PersistentVolumeClaim = claim_calls kind
plain_of kind kinds.Pod = plain_pod kind
plain_of kind k = 0

plain_volume : (kind : SeatKind) → is_now kind ≡ false → (v : VolumeData) → volume_calls kind v ≡ made_calls kind
plain_volume seats.Ops then_ v = absurd (true≢false then_)
plain_volume seats.Agent then_ v = absurd (true≢false then_)
plain_volume seats.User then_ v = refl
plain_volume seats.Binder then_ v = refl
plain_volume seats.Scheduler then_ v = refl
plain_volume seats.ClaimProtect then_ v = refl
plain_volume seats.VolumeProtect then_ v = refl

own_plain : (kind : SeatKind) → is_now kind ≡ false → (o : Object) → own_calls kind o ≡ plain_of kind (kind_of o)
own_plain kind then_ (Class x) = refl
own_plain kind then_ (Node x) = refl
own_plain kind then_ (Volume v) = plain_volume kind then_ v
own_plain kind then_ (Claim c) = refl
own_plain seats.Agent then_ (Pod p) = absurd (true≢false then_)
own_plain seats.Ops then_ (Pod p) = absurd (true≢false then_)
own_plain seats.User then_ (Pod p) = refl
own_plain seats.Binder then_ (Pod p) = refl
own_plain seats.Scheduler then_ (Pod p) = refl
own_plain seats.ClaimProtect then_ (Pod p) = refl
own_plain seats.VolumeProtect then_ (Pod p) = refl

pub own_same : (kind : SeatKind) → is_now kind ≡ false → (o was : Object) → kind_of o ≡ kind_of was → own_calls kind o ≡ own_calls kind was
own_same kind then_ o was same = own_plain kind then_ o ∙ (ap (plain_of kind) same ∙ sym (own_plain kind then_ was))

-- no more than it may cost any actor
pub made_less : (kind : SeatKind) → made_calls kind ≤ 3
made_less seats.Binder = omega arith
made_less seats.VolumeProtect = omega arith
made_less _ = omega arith

pub volume_less : (kind : SeatKind) (v : VolumeData) → volume_calls kind v ≤ 3
volume_less seats.Ops v = by (is_ended v.phase)
  where
    by : (b : Bool) → (if b then 3 else 0) ≤ 3
    by true = omega arith
    by false = omega arith
volume_less seats.User v = omega arith
volume_less seats.Binder v = omega arith
volume_less seats.Scheduler v = omega arith
volume_less seats.ClaimProtect v = omega arith
volume_less seats.VolumeProtect v = omega arith
volume_less seats.Agent v = omega arith

pub claim_less : (kind : SeatKind) → claim_calls kind ≤ 2
claim_less seats.Binder = omega arith
claim_less seats.Ops = omega arith
claim_less seats.ClaimProtect = omega arith
claim_less _ = omega arith

own_less : (kind : SeatKind) (o : Object) → own_calls kind o ≤ calls_for kind o
own_less kind (Class x) = omega arith
own_less kind (Node x) = omega arith
own_less kind (Volume v) = volume_less kind v
own_less kind (Claim c) = let few = claim_less kind in omega (arith, few)
own_less kind (Pod p) = pods kind
  where
    pods : (k : SeatKind) → pod_calls k p ≤ calls_for k (Pod p)
    pods seats.Scheduler = omega arith
    pods seats.Agent = omega arith
    pods _ = omega arith

-- but for an agent no more than any key
made_light : (kind : SeatKind) → made_calls kind ≤ key_calls kind
made_light seats.Binder = omega arith
made_light seats.VolumeProtect = omega arith
made_light _ = omega arith

volume_light : (kind : SeatKind) (v : VolumeData) → volume_calls kind v ≤ key_calls kind
volume_light seats.Ops v = volume_less seats.Ops v
volume_light seats.User v = omega arith
volume_light seats.Binder v = omega arith
volume_light seats.Scheduler v = omega arith
volume_light seats.ClaimProtect v = omega arith
volume_light seats.VolumeProtect v = omega arith
volume_light seats.Agent v = omega arith

claim_light : (kind : SeatKind) → claim_calls kind ≤ key_calls kind
claim_light seats.Binder = omega arith
claim_light seats.Ops = omega arith
claim_light seats.ClaimProtect = omega arith
claim_light _ = omega arith

pub own_light : (kind : SeatKind) → is_agent kind ≡ false → (o : Object) → own_calls kind o ≤ key_calls kind
own_light kind no_agent (Class x) = omega arith
own_light kind no_agent (Node x) = omega arith
own_light kind no_agent (Volume v) = volume_light kind v
own_light kind no_agent (Claim c) = claim_light kind
own_light seats.Agent no_agent (Pod p) = absurd (true≢false no_agent)
own_light seats.Scheduler no_agent (Pod p) = omega arith
own_light _ no_agent (Pod p) = omega arith

-- a volume, and a claim, by the kinds of their keys
pub of_volume : (kind : SeatKind) → is_now kind ≡ false → (o : Object) → kind_index (kind_of o) ≡ 2 → own_calls kind o ≡ made_calls kind
of_volume kind then_ (Volume v) two = plain_volume kind then_ v
of_volume kind then_ (Class x) two = absurd (omega (arith, two))
of_volume kind then_ (Node x) two = absurd (omega (arith, two))
of_volume kind then_ (Claim x) two = absurd (omega (arith, two))
of_volume kind then_ (Pod x) two = absurd (omega (arith, two))

agents_volume : (o : Object) → kind_index (kind_of o) ≡ 2 → own_calls seats.Agent o ≡ 0
agents_volume (Volume v) two = refl
agents_volume (Class x) two = refl
agents_volume (Node x) two = refl
agents_volume (Claim x) two = refl
agents_volume (Pod x) two = absurd (omega (arith, two))

pub of_claim : (kind : SeatKind) (o : Object) → kind_index (kind_of o) ≡ 3 → own_calls kind o ≡ claim_calls kind
of_claim kind (Claim c) three = refl
of_claim kind (Class x) three = absurd (omega (arith, three))
of_claim kind (Node x) three = absurd (omega (arith, three))
of_claim kind (Volume x) three = absurd (omega (arith, three))
of_claim kind (Pod x) three = absurd (omega (arith, three))

now_three : (kind : SeatKind) → is_now kind ≡ true → key_calls kind ≡ 3
now_three seats.Ops e = refl
now_three seats.Agent e = refl
now_three seats.User e = absurd (true≢false (sym e))
now_three seats.Binder e = absurd (true≢false (sym e))
now_three seats.Scheduler e = absurd (true≢false (sym e))
now_three seats.ClaimProtect e = absurd (true≢false (sym e))
now_three seats.VolumeProtect e = absurd (true≢false (sym e))

no_agent : (kind : SeatKind) → is_now kind ≡ false → is_agent kind ≡ false
no_agent seats.Agent e = e
no_agent seats.Ops e = refl
no_agent seats.User e = refl
no_agent seats.Binder e = refl
no_agent seats.Scheduler e = refl
no_agent seats.ClaimProtect e = refl
no_agent seats.VolumeProtect e = refl

-- ---- the volumes that may be made

any_in : (key : Key) (ks : List Key) → IsIn key ks → list_any (same_key key) ks ≡ true
any_in key [] i = absurd i
any_in key (k ∷ ks) (inl is) = let e : same_key key k ≡ true = ap (same_key key) is ∙ same_key_itself key in ap (λ b. b || list_any (same_key key) ks) e
any_in key (k ∷ ks) (inr more) = by (same_key key k) (any_in key ks more)
  where
    by : (b : Bool) → list_any (same_key key) ks ≡ true → (b || list_any (same_key key) ks) ≡ true
    by true rest = refl
    by false rest = rest

in_any : (key : Key) (ks : List Key) → list_any (same_key key) ks ≡ true → IsIn key ks
in_any key [] e = absurd (true≢false (sym e))
in_any key (k ∷ ks) e = by (same_key key k) refl e (in_any key ks)
  where
    by : (b : Bool) → same_key key k ≡ b → (b || list_any (same_key key) ks) ≡ true → (list_any (same_key key) ks ≡ true → IsIn key ks) → IsIn key (k ∷ ks)
    by true is o rest = inl (sym ((same_key-Decides key k).0 is))
    by false is o rest = inr (rest o)

pub any_kind : (first : List Object) (key : Key) → list_any (same_key key) (made_keys first) ≡ true → kind_index key.kind ≡ 2
any_kind first key e = made_kind key first (in_any key (made_keys first) e)

-- no other key is fresh
not_fresh : (first : List Object) (key : Key) → (kind_index key.kind ≡ 2 → ⊥) → is_fresh first key ≡ false
not_fresh first key other = by (list_any (same_key key) (made_keys first)) refl
  where
    by : (b : Bool) → list_any (same_key key) (made_keys first) ≡ b → is_fresh first key ≡ false
    by true e = absurd (other (any_kind first key e))
    by false e = e

-- ---- what a decision costs

pub stood_light : (kind : SeatKind) → is_now kind ≡ false → (first : List Object) (key : Key) → stood_cost kind first key ≤ key_calls kind
stood_light kind then_ first key = by (row_at key first) (is_fresh first key)
  where
    by : (x : Option Object) (b : Bool) → cost_or (fresh_cost (made_calls kind) b) kind x ≤ key_calls kind
    by None true = made_light kind
    by None false = omega arith
    by (Some o) b = own_light kind (no_agent kind then_) o

pub cost_light : (kind : SeatKind) (first rows : List Object) (key : Key) → key_cost kind rows key ≤ 3 → cost_in kind first rows key ≤ key_calls kind
cost_light kind first rows key light = by (is_now kind) refl
  where
    at : (x : Option Object) → calls_if kind x ≤ 3 → weigh_if (own_calls kind) x ≤ 3
    at None l = omega arith
    at (Some o) l = let less = own_less kind o in omega (arith, less, l)

    by : (b : Bool) → is_now kind ≡ b → cost_by b kind first rows key ≤ key_calls kind
    by true e = let few = at (row_at key rows) light in let three = now_three kind e in omega (arith, few, three)
    by false e = stood_light kind e first key

-- what stands at a key costs no more than was reckoned for the key
module _ (kind : SeatKind) (first rows : List Object) (given : AreGiven first rows) where
  covers_stood : is_now kind ≡ false → (key : Key) (o : Object) → row_at key rows ≡ Some o → own_calls kind o ≤ stood_cost kind first key
  covers_stood then_ key o there = by (given key o there)
    where
      keyed : kind_of o ≡ key.kind
      keyed = ap (λ (k : Key). k.kind) (row_at_key key o rows there)

      by_old : (was : Object) → row_at key first ≡ Some was → own_calls kind o ≤ stood_cost kind first key
      by_old was before =
          let same = own_same kind then_ o was (keyed ∙ sym (ap (λ (k : Key). k.kind) (row_at_key key was first before))) in
          let is : stood_cost kind first key ≡ own_calls kind was = ap (cost_or (fresh_cost (made_calls kind) (is_fresh first key)) kind) before in
          omega (arith, same, is)

      by_made : IsIn key (made_keys first) → (x : Option Object) → row_at key first ≡ x → own_calls kind o ≤ stood_cost kind first key
      by_made i None none =
          let any : is_fresh first key ≡ true = any_in key (made_keys first) i in
          let is : stood_cost kind first key ≡ made_calls kind = ap (cost_or (fresh_cost (made_calls kind) (is_fresh first key)) kind) none ∙ ap (fresh_cost (made_calls kind)) any in
          let own = of_volume kind then_ o (ap kind_index keyed ∙ made_kind key first i) in
          omega (arith, is, own)
      by_made i (Some was) before = by_old was before

      by : IsGiven first key o → own_calls kind o ≤ stood_cost kind first key
      by (IsOld was before few uid) = by_old was before
      by (IsMade i none) = by_made i (row_at key first) refl

  pub covers : (key : Key) (o : Object) → row_at key rows ≡ Some o → own_calls kind o ≤ cost_in kind first rows key
  covers key o there = by (is_now kind) refl
    where
      by : (b : Bool) → is_now kind ≡ b → own_calls kind o ≤ cost_by b kind first rows key
      by true e = let is : weigh_if (own_calls kind) (row_at key rows) ≡ own_calls kind o = ap (weigh_if (own_calls kind)) there in omega (arith, is)
      by false e = covers_stood e key o there

-- the key of a claim that is queued
pub queued_cost : (kind : SeatKind) (first rows : List Object) (other : Key) → kind_index other.kind ≡ 3 → cost_in kind first rows other ≤ claim_calls kind
queued_cost kind first rows other claim = by (is_now kind)
  where
    one_of : (os : List Object) (o : Object) → row_at other os ≡ Some o → own_calls kind o ≤ claim_calls kind
    one_of os o there = let own = of_claim kind o (ap (λ (k : Key). kind_index k.kind) (row_at_key other o os there) ∙ claim) in omega (arith, own)

    now : (x : Option Object) → row_at other rows ≡ x → weigh_if (own_calls kind) x ≤ claim_calls kind
    now None e = omega arith
    now (Some o) e = one_of rows o e

    none_fresh : is_fresh first other ≡ false
    none_fresh = not_fresh first other (λ two. absurd (omega (arith, two, claim)))

    then_ : (x : Option Object) → row_at other first ≡ x → cost_or (fresh_cost (made_calls kind) (is_fresh first other)) kind x ≤ claim_calls kind
    then_ None e = let z : fresh_cost (made_calls kind) (is_fresh first other) ≡ 0 = ap (fresh_cost (made_calls kind)) none_fresh in omega (arith, z)
    then_ (Some o) e = one_of first o e

    by : (b : Bool) → cost_by b kind first rows other ≤ claim_calls kind
    by true = now (row_at other rows) refl
    by false = then_ (row_at other first) refl

-- ---- a call makes no key cost more

-- what an object costs that stands at the key
abbrev pub now_cost : SeatKind → List Object → Key → ℕ
now_cost kind rows key = weigh_if (own_calls kind) (row_at key rows)

-- the rows after a call of a controller of this role: what it writes costs ops and an agent no more than what stood in its place
pub data CallMoves (kind : SeatKind) (old new : List Object) : Type 0 where
  IsSame : new ≡ old → CallMoves kind old new
  Moved : (o : Object) → Comes old o → (is_now kind ≡ true → own_calls kind o ≤ now_cost kind old (key_of o)) → IsMoved old new o → CallMoves kind old new

agents_same : (o was : Object) → kind_index (kind_of o) ≡ kind_index (kind_of was) → names_in o ≤ names_in was → own_calls seats.Agent o ≤ own_calls seats.Agent was
agents_same (Class x) was same few = omega arith
agents_same (Node x) was same few = omega arith
agents_same (Volume x) was same few = omega arith
agents_same (Claim x) was same few = omega arith
agents_same (Pod p) (Pod q) same few = omega (arith, few)
agents_same (Pod p) (Class x) same few = absurd (omega (arith, same))
agents_same (Pod p) (Node x) same few = absurd (omega (arith, same))
agents_same (Pod p) (Volume x) same few = absurd (omega (arith, same))
agents_same (Pod p) (Claim x) same few = absurd (omega (arith, same))

pub agents_come : (old : List Object) (o : Object) → Comes old o → own_calls seats.Agent o ≤ now_cost seats.Agent old (key_of o)
agents_come old o (IsOver was there few uid) =
    let keyed : kind_index (kind_of o) ≡ kind_index (kind_of was) = ap (λ (k : Key). kind_index k.kind) (sym (row_at_key (key_of o) was old there)) in
    let less = agents_same o was keyed few in
    let is : now_cost seats.Agent old (key_of o) ≡ own_calls seats.Agent was = ap (weigh_if (own_calls seats.Agent)) there in
    omega (arith, less, is)
agents_come old o (IsFor c uid there has keyed none) = let z = agents_volume o (ap (λ (k : Key). kind_index k.kind) keyed) in omega (arith, z)

-- an object that costs no more than what stood in its place is written
pub moved_falls : (kind : SeatKind) (old new : List Object) → AreRows old → (o : Object) → own_calls kind o ≤ now_cost kind old (key_of o)
    → IsMoved old new o → (key : Key) → now_cost kind new key ≤ now_cost kind old key
moved_falls kind old new order o come moved key = by moved (key_tells (key_of o) key)
  where
    by : IsMoved old new o → (key_of o ≡ key) ⊎ (key_of o ≢ key) → now_cost kind new key ≤ now_cost kind old key
    by (inl put) (inl same) =
        let is : now_cost kind new (key_of o) ≡ own_calls kind o = ap (λ rows. now_cost kind rows (key_of o)) put ∙ ap (weigh_if (own_calls kind)) (row_at-put_row o old) in
        subst (λ k. now_cost kind new k ≤ now_cost kind old k) same (omega (arith, is, come))
    by (inl put) (inr other) =
        let is : now_cost kind new key ≡ now_cost kind old key = ap (λ rows. now_cost kind rows key) put ∙ ap (weigh_if (own_calls kind)) (row_at-put_row_other key o old other) in
        omega (arith, is)
    by (inr gone) (inl same) =
        let is : now_cost kind new (key_of o) ≡ 0 = ap (λ rows. now_cost kind rows (key_of o)) gone ∙ ap (weigh_if (own_calls kind)) (row_at-without_row (key_of o) old order) in
        subst (λ k. now_cost kind new k ≤ now_cost kind old k) same (omega (arith, is))
    by (inr gone) (inr other) =
        let is : now_cost kind new key ≡ now_cost kind old key = ap (λ rows. now_cost kind rows key) gone ∙ ap (weigh_if (own_calls kind)) (row_at-without_row_other (key_of o) key old other) in
        omega (arith, is)

now_falls : (kind : SeatKind) (old new : List Object) → AreRows old → is_now kind ≡ true → CallMoves kind old new → (key : Key) → now_cost kind new key ≤ now_cost kind old key
now_falls kind old new order now (IsSame same) key = let e = ap (λ rows. now_cost kind rows key) same in omega (arith, e)
now_falls kind old new order now (Moved o comes come moved) key = moved_falls kind old new order o (come now) moved key

pub cost_falls : (kind : SeatKind) (first old new : List Object) → AreRows old → CallMoves kind old new → (key : Key) → cost_in kind first new key ≤ cost_in kind first old key
cost_falls kind first old new order moves key = by (is_now kind) refl
  where
    by : (b : Bool) → is_now kind ≡ b → cost_by b kind first new key ≤ cost_by b kind first old key
    by true e = now_falls kind old new order e moves key
    by false e = omega arith

-- ---- what stands is given, and costs ops and an agent no more than what stood in its place

abbrev pub CostsNoMore : SeatKind → List Object → List Object → Type 0
CostsNoMore kind first rows = (key : Key) → now_cost kind rows key ≤ now_cost kind first key

pub record AreKept (kind : SeatKind) (first rows : List Object) : Type 0 where
  pub given : AreGiven first rows
  pub no_more : is_now kind ≡ true → CostsNoMore kind first rows

pub kept_first : (kind : SeatKind) (rows : List Object) → AreKept kind rows rows
kept_first kind rows = record { given = given_first rows; no_more = λ now key. omega arith }

pub kept_on : (kind : SeatKind) (first old new : List Object) → AreRows old → CallMoves kind old new → AreKept kind first old → AreKept kind first new
kept_on kind first old new order moves kept = record {
  given = given_by moves;
  no_more = λ now key. let less = now_falls kind old new order now moves key in let before = kept.no_more now key in omega (arith, less, before);
}
  where
    given_by : CallMoves kind old new → AreGiven first new
    given_by (IsSame same) = subst (AreGiven first) (sym same) kept.given
    given_by (Moved o comes come moved) = moved_given first old kept.given order new o comes moved
