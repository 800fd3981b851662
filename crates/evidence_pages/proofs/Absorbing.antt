-- Caches and the kind of a seat, after one entry more.
use Rattle.std.proofs.Common.{◌≡◌, List, [], ◌∷◌, false, Option, Some, None, sym, ◌∙◌, ap, subst, if◌then◌else◌}
use Rattle.call_types.specs.declared.entry.Entry.{Entry}
use Rattle.call_types.specs.declared.request.SeatKind.{SeatKind}
use Rattle.binder_model.specs.Licence.{AreOfKind}
use Rattle.binder_model.specs.Told.{later, newest, object_of, tells_of}
use Rattle.informer_cache.specs.All.{AllKnown, AllStandFor, cache_of}
use Rattle.informer_cache.proofs.Stands.{quiet_stands, untold_quiet}

-- an entry that was not told
pub all_untold : (c : AllKnown) (e : Entry) → e.told ≡ false → (mine : List Entry) → AllStandFor c mine → AllStandFor c (e ∷ mine)
all_untold c e lost mine all = record {
  kinds = all.kinds;
  each = λ kind. quiet_stands (cache_of kind c) mine e (untold_quiet _ e lost) (all.each kind);
  rows = λ key. all.rows key ∙ ap (λ t. object_of (later t (newest mine key))) (sym (ap (λ b. if b then tells_of e.request e.reply key else None) lost));
}

pub some_kind : (a b : SeatKind) → Some a ≡ Some b → a ≡ b
some_kind a b e = ap (kind_or a) e
  where
    kind_or : SeatKind → Option SeatKind → SeatKind
    kind_or d None = d
    kind_or d (Some k) = k

-- the first entry has its own kind alone
pub first_kind : (mine : List Entry) (e : Entry) (next k : SeatKind) → e.kind ≡ next → mine ≡ [] → Some next ≡ Some k → AreOfKind k (e ∷ mine)
first_kind mine e next k own none is = (own ∙ some_kind next k is, subst (AreOfKind k) (sym none) tt)

-- one more entry of the kind that all have
pub more_kind : (mine : List Entry) (e : Entry) (next k : SeatKind) → e.kind ≡ next → k ≡ next → AreOfKind k mine → AreOfKind k (e ∷ mine)
more_kind mine e next k own same all = (own ∙ sym same, all)
