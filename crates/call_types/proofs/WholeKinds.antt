-- What lists and watches no whole kind reads none, and the other way round.
use Rattle.std.proofs.Common.{◌≡◌, ◌∙◌, false, true≢false, Option, Some, None, refl, sym, ap, subst}
use Rattle.std.specs.Prelude.{IfSome}
use Rattle.kube_parts.specs.declared.parts.Kind.{Kind}
use Rattle.kube_objects.proofs.SameKeys.{same_kind-Decides}
use Rattle.call_types.specs.declared.request.Request.{Request}
use Rattle.call_types.specs.declared.request.Request.TheVariants as requests
use Rattle.call_types.specs.Kinds.{ReadsNoKind, reads_kind}

pub no_read : (r : Request) (kind : Kind) → ReadsNoKind r → reads_kind kind r ≡ false
no_read (requests.List k None) kind none = absurd (none.lists k refl)
no_read (requests.Watch k from) kind none = absurd (none.watches k from refl)
no_read (requests.List k (Some namespace)) kind none = refl
no_read _ kind none = refl

-- of each kind the request is no read
abbrev pub ReadsNone : Request → Type 0
ReadsNone r = (kind : Kind) → reads_kind kind r ≡ false

pub reads_no_kind : (r : Request) → ReadsNone r → ReadsNoKind r
reads_no_kind r none = record {
  lists = λ kind e. true≢false (sym ((same_kind-Decides kind kind).1 refl) ∙ sym (ap (reads_kind kind) e) ∙ none kind);
  watches = λ kind from e. true≢false (sym ((same_kind-Decides kind kind).1 refl) ∙ sym (ap (reads_kind kind) e) ∙ none kind);
}

-- a call that may be none
pub call_reads_none : (x : Option Request) (r : Request) → x ≡ Some r → IfSome x ReadsNone → ReadsNone r
call_reads_none x r e none = subst (λ y. IfSome y ReadsNone) e none
