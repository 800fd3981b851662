-- At which step the scheduler stands with a pod rests on the nodes of claims only where they tell that all are under way.
use Rattle.std.proofs.Common.{◌≡◌, ◌∙◌, List, [], ◌∷◌, Bool, true, false, true≢false, Option, Some, None, refl, sym, ap, if◌then◌else◌}
use Rattle.std.specs.Prelude.{◌&&◌, ◌||◌, not, option_map}
use Rattle.std.specs.List.{list_any}
use Rattle.kube_parts.specs.declared.parts.Kind.TheVariants as kinds
use Rattle.kube_objects.specs.declared.objects.Claim.{Claim as ClaimData}
use Rattle.kube_objects.specs.declared.objects.Node.{Node as NodeData}
use Rattle.kube_objects.specs.declared.objects.Object.{Object}
use Rattle.kube_objects.specs.declared.objects.Object.TheVariants.{Class, Node, Volume, Claim, Pod}
use Rattle.kube_objects.specs.declared.objects.Pod.{Pod as PodData}
use Rattle.kube_objects.specs.Bindings.{is_completed, is_empty}
use Rattle.kube_objects.specs.Keys.{rows_of}
use Rattle.binder_model.specs.Choice.{
  Assigns,
  GoesNowhere,
  Searches,
  Step,
  Waits,
  are_completed,
  assigned_node,
  claim_named,
  claims_of,
  first_taking,
  is_missing,
  is_served_elsewhere,
  lacks_claim,
  takes_pod,
  volume_admits,
}
use Rattle.settle_alike.proofs.Alike.Rows.{any_mapped, any_same, plain_node, plain_pod}
use Rattle.settle_alike.specs.Near.Near.{rests_of}
use Rattle.settle_alike.proofs.Near.Annotations.{completed_rest, rest_claim}
use Rattle.settle_alike.proofs.Near.Provisioning.{late_rest}
use Rattle.settle_alike.proofs.Near.Rows.{named_rest, rows_rest}
use Rattle.settle_alike.proofs.Near.Serving.{all_claims, claims_rest, volume_rest}

-- a step but for the version of the node
abbrev pub plain_step : Step → Step
plain_step (Assigns n) = Assigns (plain_node n)
plain_step GoesNowhere = GoesNowhere
plain_step Waits = Waits
plain_step Searches = Searches

missing_rest : (x : Option ClaimData) → is_missing (option_map rest_claim x) ≡ is_missing x
missing_rest None = refl
missing_rest (Some c) = refl

lacks_rest : (rows : List Object) (p : PodData) → lacks_claim (rests_of rows) (plain_pod p) ≡ lacks_claim rows p
lacks_rest rows p =
    any_same (λ name. is_missing (claim_named (rests_of rows) p.meta.namespace name)) (λ name. is_missing (claim_named rows p.meta.namespace name))
    (λ name. ap is_missing (named_rest rows p.meta.namespace name) ∙ missing_rest (claim_named rows p.meta.namespace name)) p.claims

first_rest : (rows : List Object) (p : PodData) (os : List Object) → first_taking (rests_of rows) (plain_pod p) (rests_of os) ≡ option_map plain_node (first_taking rows p os)
first_rest rows p [] = refl
first_rest rows p (Class x ∷ os) = first_rest rows p os
first_rest rows p (Volume x ∷ os) = first_rest rows p os
first_rest rows p (Claim x ∷ os) = first_rest rows p os
first_rest rows p (Pod x ∷ os) = first_rest rows p os
first_rest rows p (Node n ∷ os) =
    ap (λ b. if b then Some (plain_node n) else first_taking (rests_of rows) (plain_pod p) (rests_of os))
    (all_claims rows p (volume_admits (rests_of rows) (plain_node n)) (volume_admits rows n) (volume_rest rows n))
    ∙ by (takes_pod rows p (Node n)) (first_rest rows p os)
  where
    by : (b : Bool) → first_taking (rests_of rows) (plain_pod p) (rests_of os) ≡ option_map plain_node (first_taking rows p os)
        → (if b then Some (plain_node n) else first_taking (rests_of rows) (plain_pod p) (rests_of os)) ≡ option_map plain_node (if b then Some n else first_taking rows p os)
    by true rest = refl
    by false rest = rest

elsewhere_rest : (rows : List Object) (c : ClaimData) → is_served_elsewhere (rests_of rows) (rest_claim c) ≡ is_served_elsewhere rows c
elsewhere_rest rows c = let completed = completed_rest c in let late = late_rest rows c in λ i. not (completed i) && (not (is_empty c.volume_name) || not (late i))

-- the step, where it is known whether all claims are under way
abbrev pub step_with : List Object → PodData → Bool → Step
step_with rows p under_way =
    if lacks_claim rows p then GoesNowhere
    else if are_completed rows p then assigned_node (first_taking rows p (rows_of kinds.Node rows))
    else if list_any (is_served_elsewhere rows) (claims_of rows p) then Waits
    else if under_way then Waits
    else Searches

assigned_rest : (x : Option NodeData) → assigned_node (option_map plain_node x) ≡ plain_step (assigned_node x)
assigned_rest None = refl
assigned_rest (Some n) = refl

pub step_rest : (rows : List Object) (p : PodData) (under_way : Bool) → step_with (rests_of rows) (plain_pod p) under_way ≡ plain_step (step_with rows p under_way)
step_rest rows p under_way =
    let lacking = lacks_rest rows p in
    let completed = all_claims rows p is_completed is_completed completed_rest in
    let found = ap (first_taking (rests_of rows) (plain_pod p)) (rows_rest kinds.Node rows) ∙ first_rest rows p (rows_of kinds.Node rows) in
    let assigned = ap assigned_node found ∙ assigned_rest (first_taking rows p (rows_of kinds.Node rows)) in
    let elsewhere = ap (list_any (is_served_elsewhere (rests_of rows))) (claims_rest rows p)
    ∙ any_mapped rest_claim (is_served_elsewhere (rests_of rows)) (is_served_elsewhere rows) (elsewhere_rest rows) (claims_of rows p) in
    (λ i. if lacking i then GoesNowhere else if completed i then assigned i else if elsewhere i then Waits else if under_way then Waits else Searches)
    ∙ by (lacks_claim rows p) (are_completed rows p) (list_any (is_served_elsewhere rows) (claims_of rows p)) under_way
  where
    by : (a b c d : Bool)
        → (if a then GoesNowhere else if b then plain_step (assigned_node (first_taking rows p (rows_of kinds.Node rows))) else if c then Waits else if d then Waits else Searches)
        ≡ plain_step (if a then GoesNowhere else if b then assigned_node (first_taking rows p (rows_of kinds.Node rows)) else if c then Waits else if d then Waits else Searches)
    by true b c d = refl
    by false true c d = refl
    by false false true d = refl
    by false false false true = refl
    by false false false false = refl

-- ---- what each step tells

abbrev pub is_assigning : Step → Bool
is_assigning (Assigns n) = true
is_assigning s = false

abbrev pub is_searching : Step → Bool
is_searching Searches = true
is_searching s = false

-- a pod that goes to a node does so whatever is under way
pub assigns_any : (rows : List Object) (p : PodData) (a b : Bool) → is_assigning (step_with rows p a) ≡ true → is_assigning (step_with rows p b) ≡ true
assigns_any rows p a b e = by (lacks_claim rows p) (are_completed rows p) (list_any (is_served_elsewhere rows) (claims_of rows p)) a e
  where
    by : (l d s u : Bool) → is_assigning (if l then GoesNowhere else if d then assigned_node (first_taking rows p (rows_of kinds.Node rows)) else if
        s then Waits else if u then Waits else Searches) ≡ true
        → is_assigning (if l then GoesNowhere else if d then assigned_node (first_taking rows p (rows_of kinds.Node rows)) else if s then Waits else if b then Waits else Searches) ≡ true
    by true d s u h = h
    by false true s u h = h
    by false false true u h = absurd (true≢false (sym h))
    by false false false true h = absurd (true≢false (sym h))
    by false false false false h = absurd (true≢false (sym h))

-- a pod for which a node is searched has a claim that is not under way; and is searched for wherever one is not
pub searches_so : (rows : List Object) (p : PodData) (a : Bool) → is_searching (step_with rows p a) ≡ true → is_searching (step_with rows p false) ≡ true
searches_so rows p a e = by (lacks_claim rows p) (are_completed rows p) (list_any (is_served_elsewhere rows) (claims_of rows p)) a e
  where
    never : (x : Option NodeData) → is_searching (assigned_node x) ≡ false
    never None = refl
    never (Some n) = refl

    by : (l d s u : Bool) → is_searching (if l then GoesNowhere else if d then assigned_node (first_taking rows p (rows_of kinds.Node rows)) else if
        s then Waits else if u then Waits else Searches) ≡ true
        → is_searching (if l then GoesNowhere else if d then assigned_node (first_taking rows p (rows_of kinds.Node rows)) else if s then Waits else Searches) ≡ true
    by true d s u h = h
    by false true s u h = h
    by false false true u h = h
    by false false false true h = absurd (true≢false (sym h))
    by false false false false h = h

pub searching_plain : (s : Step) → is_searching (plain_step s) ≡ is_searching s
searching_plain (Assigns n) = refl
searching_plain GoesNowhere = refl
searching_plain Waits = refl
searching_plain Searches = refl

pub assigning_plain : (s : Step) → is_assigning (plain_step s) ≡ is_assigning s
assigning_plain (Assigns n) = refl
assigning_plain GoesNowhere = refl
assigning_plain Waits = refl
assigning_plain Searches = refl

pub searches_is : (s : Step) → is_searching s ≡ true → s ≡ Searches
searches_is Searches e = refl
searches_is (Assigns n) e = absurd (true≢false (sym e))
searches_is GoesNowhere e = absurd (true≢false (sym e))
searches_is Waits e = absurd (true≢false (sym e))
