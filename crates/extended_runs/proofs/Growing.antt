-- A user's wish that a claim grow, as the side answers it.
use Rattle.std.proofs.Common.{◌≡◌, ℕ, ◌<◌, ◌≤◌, List, length, Option, Some, None, refl, sym, ap, ap₂, ◌∙◌, subst, arith}
use Rattle.std.specs.Prelude.{◌-◌, ◌^◌, option_map}
use Rattle.kube_parts.specs.declared.uid.Uid.{Uid}
use Rattle.kube_objects.specs.declared.key.Key.{Key}
use Rattle.kube_objects.specs.declared.objects.Claim.{Claim as ClaimData}
use Rattle.kube_objects.specs.declared.objects.Object.{Object}
use Rattle.kube_objects.specs.declared.objects.Object.TheVariants.{Class, Claim, Node, Pod, Volume}
use Rattle.kube_objects.specs.Keys.{key_of, row_at}
use Rattle.kube_objects.proofs.KeyOrder.{row_at_key}
use Rattle.call_types.specs.declared.setup.Setup.{Setup}
use Rattle.binder_model.specs.Choice.{claim_in}
use Rattle.binder_model.specs.Imports.{ImportsPass}
use Rattle.binder_model.specs.Promises.{most_entries}
use Rattle.binder_model.specs.World.{world}
use Rattle.model_laws.proofs.Lists.{none_some, one}
use Rattle.side_calls.specs.declared.asks.SideAsk.TheVariants.{Grow}
use Rattle.side_calls.specs.declared.sizes.GrowError.{GrowError}
use Rattle.side_calls.specs.declared.sizes.SizeRow.{SizeRow}
use Rattle.quota_rules.specs.Counting.{HasRoom, grown_in}
use Rattle.quota_rules.specs.Using.{Tally}
use Rattle.expand_ops.specs.Growing.{asked_by, asked_now, claim_lets, fault_by, fault_if, grow_fault, grown_if, rows_grown, sizes_grown, why_claim}
use Rattle.expand_ops.specs.Sizes.{Growth, size_at}
use Rattle.side_model.specs.Answers.{grow_reply, side}
use Rattle.side_model.specs.Sides.{SideSetup, counted_in}
use Rattle.side_model.specs.Merged.{Step, entries}
use Rattle.expand_ops.proofs.Grown.{fault_parts}
use Rattle.side_laws.proofs.Counts.{growth_is_counted}
use Rattle.side_laws.proofs.Growths.{no_smaller}
use Rattle.side_laws.proofs.Whole.{uids_at}
use Rattle.extended_runs.specs.declared.sides.KeptSide.{KeptSide}
use Rattle.extended_runs.specs.Steps.Sides.{IsAsked, SideStands, asking_in, tally_at}
use Rattle.extended_runs.proofs.Resting.{HasEntered, enters}

-- ---- the claim of a key

-- a claim stands there, of this UID, that asks for so many bytes
pub record IsAsking (sizes : List SizeRow) (o : Option Object) (uid : Uid) (asked : ℕ) : Type 0 where
  pub claim : ClaimData
  pub there : o ≡ Some (Claim claim)
  pub has : claim.meta.uid ≡ Some uid
  pub asks : asked_by (size_at (key_of (Claim claim)) sizes) claim ≡ asked

pub asking_is : (sizes : List SizeRow) (o : Option Object) (uid : Uid) (asked : ℕ) → asking_in sizes (claim_in o) ≡ Some (uid, asked) → IsAsking sizes o uid asked
asking_is sizes None uid asked e = none_some e
asking_is sizes (Some (Class x)) uid asked e = none_some e
asking_is sizes (Some (Node x)) uid asked e = none_some e
asking_is sizes (Some (Volume x)) uid asked e = none_some e
asking_is sizes (Some (Pod x)) uid asked e = none_some e
asking_is sizes (Some (Claim c)) uid asked e = by c.meta.uid refl e
  where
    by : (u : Option Uid) → c.meta.uid ≡ u
        → option_map {U = Uid × ℕ} (λ (v : Uid). (v, asked_by (size_at (key_of (Claim c)) sizes) c)) u ≡ Some (uid, asked)
        → IsAsking sizes (Some (Claim c)) uid asked
    by None is f = none_some f
    by (Some v) is f =
        let both = one {X = Uid × ℕ} (v, asked_by (size_at (key_of (Claim c)) sizes) c) (uid, asked) f in
        record { claim = c; there = refl; has = is ∙ ap (λ (p : Uid × ℕ). Some p.0) both; asks = ap (λ (p : Uid × ℕ). p.1) both }

-- where nothing stands against a growth there is a claim
record HasClaim (o : Option Object) : Type 0 where
  claim : ClaimData
  there : o ≡ Some (Claim claim)

claim_there : (t : Tally) (sizes : List SizeRow) (objects : List Object) (key : Key) (bytes : ℕ) (o : Option Object)
    → fault_if (why_claim (claim_lets objects (claim_in o)) objects (claim_in o)) (fault_by t key bytes (asked_now sizes key (claim_in o))) ≡ None → HasClaim o
claim_there t sizes objects key bytes (Some (Claim c)) e = record { claim = c; there = refl }
claim_there t sizes objects key bytes None e = none_some (sym e)
claim_there t sizes objects key bytes (Some (Class x)) e = none_some (sym e)
claim_there t sizes objects key bytes (Some (Node x)) e = none_some (sym e)
claim_there t sizes objects key bytes (Some (Volume x)) e = none_some (sym e)
claim_there t sizes objects key bytes (Some (Pod x)) e = none_some (sym e)

-- no less is asked for than before
not_less : (t : Tally) (sizes : List SizeRow) (objects : List Object) (key : Key) (bytes : ℕ) (c : ClaimData) → row_at key objects ≡ Some (Claim c)
    → grow_fault t sizes objects key bytes ≡ None → asked_by (size_at key sizes) c ≤ bytes
not_less t sizes objects key bytes c there none =
    let parts = fault_parts _ _ (subst
    (λ (o : Option Object). fault_if (why_claim (claim_lets objects (claim_in o)) objects (claim_in o)) (fault_by t key bytes (asked_now sizes key (claim_in o))) ≡ None) there none) in
    no_smaller t key bytes (asked_by (size_at key sizes) c) parts.1

-- ---- what is counted

-- the claim of the key grows by so many bytes, and there is room for them
pub record Grows (t : Tally) (sizes : List SizeRow) (objects : List Object) (key : Key) (bytes : ℕ) (uid : Uid) (asked : ℕ) : Type 0 where
  pub less : asked ≤ bytes
  pub room : HasRoom key.namespace uid (bytes - asked) t.counted
  pub grown : grown_in key.namespace uid (bytes - asked) t.counted ≡ counted_in (rows_grown t sizes objects key bytes) objects

module _ (setup : Setup) (given : SideSetup) (m : List Step) (pass : ImportsPass setup.imports) (short : length (entries m) < most_entries) (key : Key) (bytes : ℕ)
    (below : bytes < 2 ^ 64) where
  abbrev there_now : List Object
  there_now = (world setup (entries m)).store.rows

  abbrev sizes_now : List SizeRow
  sizes_now = (side setup given m).sizes

  grows_there : (uid : Uid) (asked : ℕ) → grow_fault (tally_at setup given m) sizes_now there_now key bytes ≡ None
      → IsAsking sizes_now (row_at key there_now) uid asked → Grows (tally_at setup given m) sizes_now there_now key bytes uid asked
  grows_there uid asked none is =
      let c = is.claim in
      let keyed : key_of (Claim c) ≡ key = row_at_key key (Claim c) there_now is.there in
      let same : asked_by (size_at key sizes_now) c ≡ asked = ap (λ (k : Key). asked_by (size_at k sizes_now) c) (sym keyed) ∙ is.asks in
      let space : c.meta.namespace ≡ key.namespace = ap (λ (k : Key). k.namespace) keyed in
      let counts = growth_is_counted setup given m pass short key bytes c uid below is.there is.has none in
      let low = not_less (tally_at setup given m) sizes_now there_now key bytes c is.there none in
      record {
        less = omega (arith, low, same);
        room = subst (λ n. HasRoom key.namespace uid (bytes - n) (counted_in sizes_now there_now)) same
            (subst (λ ns. HasRoom ns uid (bytes - asked_by (size_at key sizes_now) c) (counted_in sizes_now there_now)) space counts.room);
        grown = ap₂ (λ ns n. grown_in ns uid (bytes - n) (counted_in sizes_now there_now)) (sym space) (sym same) ∙ counts.grown;
      }

  module _ (old : KeptSide) (stands : SideStands setup given m old) (objects : List Object) (are : objects ≡ there_now) where
    rows_then : old.sizes.rows ≡ sizes_now
    rows_then = ap (λ (g : Growth). g.rows) stands.sizes

    fault_then : grow_fault old.quotas old.sizes.rows objects key bytes ≡ grow_fault (tally_at setup given m) sizes_now there_now key bytes
    fault_then = ap (λ (t : Tally). grow_fault t old.sizes.rows objects key bytes) stands.quotas
        ∙ ap₂ (λ rows os. grow_fault (tally_at setup given m) rows os key bytes) rows_then are

    grown_then : rows_grown old.quotas old.sizes.rows objects key bytes ≡ rows_grown (tally_at setup given m) sizes_now there_now key bytes
    grown_then = ap (λ (t : Tally). rows_grown t old.sizes.rows objects key bytes) stands.quotas
        ∙ ap₂ (λ rows os. rows_grown (tally_at setup given m) rows os key bytes) rows_then are

    pub grows : (uid : Uid) (asked : ℕ) → grow_fault old.quotas old.sizes.rows objects key bytes ≡ None → asking_in old.sizes.rows (claim_in (row_at key objects)) ≡ Some (uid, asked)
        → Grows old.quotas old.sizes.rows objects key bytes uid asked
    grows uid asked none is =
        let there = grows_there uid asked (sym fault_then ∙ none)
        (asking_is sizes_now (row_at key there_now) uid asked (ap₂ (λ rows os. asking_in rows (claim_in (row_at key os))) (sym rows_then) (sym are) ∙ is)) in
        record {
          less = there.less;
          room = subst (λ (t : Tally). HasRoom key.namespace uid (bytes - asked) t.counted) (sym stands.quotas) there.room;
          grown = ap (λ (t : Tally). grown_in key.namespace uid (bytes - asked) t.counted) stands.quotas ∙ there.grown ∙ ap₂ counted_in (sym grown_then) (sym are);
        }

    -- there is a claim that asks
    pub asks_there : grow_fault old.quotas old.sizes.rows objects key bytes ≡ None → asking_in old.sizes.rows (claim_in (row_at key objects)) ≡ None → ⊥
    asks_there none silent =
        let is = claim_there old.quotas old.sizes.rows objects key bytes (row_at key objects) none in
        let stood : row_at key there_now ≡ Some (Claim is.claim) = ap (row_at key) (sym are) ∙ is.there in
        let uid = uids_at setup pass (entries m) key (Claim is.claim) stood in
        none_some (sym silent ∙ ap (λ (o : Option Object). asking_in old.sizes.rows (claim_in o)) is.there
        ∙ ap (λ (u : Option Uid). option_map {U = Uid × ℕ} (λ (v : Uid). (v, asked_by (size_at (key_of (Claim is.claim)) old.sizes.rows) is.claim)) u) uid.1)

    -- the answer, where what counts is what counts with the rows after it
    pub asked_on : (user : ℕ) (new : KeptSide) (fault : Option GrowError) → fault ≡ grow_fault old.quotas old.sizes.rows objects key bytes
        → new.sizes ≡ record old.sizes { rows = rows_grown old.quotas old.sizes.rows objects key bytes }
        → new.quotas ≡ record old.quotas { counted = counted_in (rows_grown old.quotas old.sizes.rows objects key bytes) objects }
        → HasEntered (Grow user key bytes) (grow_reply fault) old new → IsAsked setup given m user key bytes new
    asked_on user new fault is sizes quotas has = record {
      reply = grow_reply fault;
      answered = ap (λ (f : Option GrowError). Some (grow_reply f)) (sym (is ∙ fault_then));
      stands = record {
        quotas = quotas ∙ ap₂ (λ (t : Tally) xs. record t { counted = xs }) stands.quotas (ap₂ counted_in grown_then are);
        sizes = sizes ∙ ap₂ (λ (g : Growth) rows. record g { rows = rows }) stands.sizes grown_then;
        entered = has.entered ∙ enters m (Grow user key bytes) (grow_reply fault) old.entered old.noted stands.entered stands.noted;
        noted = has.noted ∙ stands.noted;
      };
    }

    -- nothing grows where something stands against it
    pub stays : (error : GrowError) → grow_fault old.quotas old.sizes.rows objects key bytes ≡ Some error
        → old.quotas ≡ record old.quotas { counted = counted_in (rows_grown old.quotas old.sizes.rows objects key bytes) objects }
    stays error some =
        let same : rows_grown old.quotas old.sizes.rows objects key bytes ≡ old.sizes.rows
        = ap (λ (f : Option GrowError). grown_if f (sizes_grown old.sizes.rows objects key bytes (claim_in (row_at key objects))) old.sizes.rows) some in
        let counted : old.quotas.counted ≡ counted_in (rows_grown old.quotas old.sizes.rows objects key bytes) objects
        = ap (λ (t : Tally). t.counted) stands.quotas ∙ ap₂ counted_in (sym rows_then ∙ sym same) (sym are) in
        ap (λ xs. record old.quotas { counted = xs }) counted
