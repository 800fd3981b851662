-- The setup of a script, and what its users ask, a text can give.
use Rattle.std.proofs.Common.{refl, sym, subst, true≢false, arith}
use Rattle.std.proofs.lemmas.Bool.Decides.{nat_tests}
use Rattle.std.specs.Prelude.{◌≡◌, ℕ, ◌≤◌, ◌==◌, Bool, true, false, cond, nat_lt, nat_le, List, [], ◌∷◌, Option, Some, None, IfSome, All, Ok, if◌then◌else◌}
use Rattle.std.specs.declared.cmp.Ordering.TheVariants.{Less, Equal, Greater}
use Rattle.std.specs.Ordering.{nat_cmp}
use Rattle.std.proofs.lemmas.List.Elements.{All-nil, All-cons, All-head, All-tail}
use Rattle.std.proofs.lemmas.Bool.{and_parts}
use Rattle.plain_data.specs.Rows.{IsAfter, IsRising}
use Rattle.quantity_text.specs.Quantity.{amount_of}
use Rattle.quantity_text.proofs.Accepted.{amounts_are_of_the_grammar}
use Rattle.kube_objects.specs.declared.objects.Object.{Object}
use Rattle.kube_objects.specs.Keys.{meta_of}
use Rattle.call_types.specs.declared.setup.Pool.{Pool}
use Rattle.call_types.specs.declared.request.Request.{Request}
use Rattle.call_types.specs.declared.request.Request.TheVariants as requests
use Rattle.object_laws.specs.Given.{IsGivenObject}
use Rattle.history_lines.specs.Entries.{rise_from, rise}
use Rattle.history_laws.specs.Read.Given.{IsNumber, IsPool, IsRequest}
use Rattle.script_lines.specs.Members.{most_call}
use Rattle.script_text.specs.LineReaders.{condition_of}
use Rattle.script_text.specs.Steps.Indexed.{AreFaults}
use Rattle.script_laws.specs.Read.Given.{IsCount, IsUsersCall}
use Rattle.script_laws.specs.Read.Scripts.{AreSized}
use Rattle.script_laws.proofs.Read.Imports.{imports_given}
use Rattle.history_laws.proofs.Runs.Objects.{version_given}
use Rattle.replay_laws.specs.Printable.Laws.{ScriptSetupsGive}

-- ---- numbers

pub count_most : (most n : ℕ) → IsCount most n → n ≤ most
count_most most n h = le_of (nat_le n most) refl (and_parts (nat_le 1 n) (nat_le n most) h).1
  where
    le_of : (b : Bool) → nat_le n most ≡ b → b ≡ true → n ≤ most
    le_of true is h = grind (arith, nat_tests)
    le_of false is h = absurd (true≢false (sym h))

amount_small : (size : List ℕ) (n : ℕ) → amount_of size ≡ Ok n → IsNumber n
amount_small size n h = let least = ((amounts_are_of_the_grammar size n).0 h).4.size in omega (arith, least)

-- ---- the setup

pools_given : (pools : List Pool) (sizes : List (List ℕ)) → AreSized pools sizes → All IsPool pools
pools_given [] sizes h = All-nil IsPool
pools_given (pool ∷ pools) [] h = absurd h
pools_given (pool ∷ pools) (size ∷ sizes) h = All-cons IsPool pool pools (amount_small size pool.bytes h.0) (pools_given pools sizes h.1)

faults_given : (calls : List ℕ) → All (IsCount most_call) calls → All IsNumber calls
faults_given [] h = All-nil IsNumber
faults_given (call ∷ calls) h =
    let few = count_most most_call call (All-head (IsCount most_call) call calls h) in
    All-cons IsNumber call calls (omega (arith, few)) (faults_given calls (All-tail (IsCount most_call) call calls h))

less_lt : (m n : ℕ) → nat_cmp m n ≡ Less → nat_lt m n ≡ true
less_lt m n h = by (nat_lt m n) (m == n) h
  where
    by : (a b : Bool) → cond a Less (cond b Equal Greater) ≡ Less → a ≡ true
    by true b h = refl
    by false true h = absurd cc
    by false false h = absurd cc

rises_from : (m : ℕ) (ns : List ℕ) → IsAfter nat_cmp (λ n. n) m ns → IsRising nat_cmp (λ n. n) ns → rise_from (Some m) ns ≡ true
rises_from m [] after h = refl
rises_from m (n ∷ ns) after h = rw (less_lt m n after.0) (rises_from n ns h.0 h.1)

rises : (ns : List ℕ) → AreFaults ns → rise ns ≡ true
rises [] h = refl
rises (n ∷ ns) h = rises_from n ns h.0 h.1

pub script_setups_give : ScriptSetupsGive
script_setups_give script is = record {
  pools = pools_given script.setup.pools script.sizes is.pools;
  faults = faults_given script.setup.faults is.fault_numbers;
  rising = rises script.setup.faults is.faults;
  imports = let imports = imports_given script is in imports.given;
  passing = let imports = imports_given script is in imports.pass;
}

-- ---- a user's call

condition_given : (o : Object) → IsGivenObject o → IfSome (condition_of o) IsNumber
condition_given o h = by ((meta_of o).version == 0)
  where
    by : (b : Bool) → IfSome (if b then None else Some (meta_of o).version) IsNumber
    by true = tt
    by false = let few = version_given o h in omega (arith, few)

pub users_ask : (request : Request) → IsUsersCall request → IsRequest request
users_ask (requests.Create object) h = h.given
users_ask (requests.Update object version) h = (h.0.given, subst (λ (v : Option ℕ). IfSome v IsNumber) (sym h.1) (condition_given object h.0.given))
users_ask (requests.UpdateStatus key status version) h = absurd h
users_ask (requests.Edit key edit) h = tt
users_ask (requests.Delete key uid) h = h.1
users_ask (requests.Get key) h = tt
users_ask (requests.List kind namespace) h = tt
users_ask (requests.Watch kind from) h = absurd h
users_ask (requests.BindPod key uid node) h = absurd h
users_ask (requests.FinishPod key uid node epoch) h = absurd h
users_ask (requests.Provision name provisioner bytes labels) h = absurd h
users_ask (requests.Erase id) h = absurd h
users_ask (requests.TakeNode node) h = absurd h
users_ask (requests.Mounts node epoch) h = absurd h
users_ask (requests.Mount node epoch pod claims) h = absurd h
users_ask (requests.Unmount node epoch pod) h = absurd h
users_ask (requests.SetTime at) h = tt
