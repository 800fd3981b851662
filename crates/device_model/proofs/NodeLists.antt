-- Rows node by node, and the one list of all rows.
use Rattle.std.proofs.Common.{
  ◌≡◌,
  ℕ,
  zero,
  suc,
  ◌+◌,
  Bool,
  true,
  false,
  true≢false,
  not,
  ◌&&◌,
  List,
  [],
  ◌∷◌,
  ◌++◌,
  filter,
  cond,
  map,
  get_or,
  set,
  refl,
  sym,
  ◌∙◌,
  ap,
  subst,
  bytes_eq,
  if◌then◌else◌,
  ◌≤◌,
  length,
  arith,
}
use Rattle.std.specs.Bool.{⊤}
use Rattle.std.specs.List.{insert}
use Rattle.std.specs.declared.cmp.Ordering.{Ordering}
use Rattle.std.specs.declared.cmp.Ordering.TheVariants.{Less, Equal, Greater}
use Rattle.std.specs.Ordering.{is_eq, is_lt}
use Rattle.std.proofs.lemmas.Cmp.{alike_right, tied_itself, nat_list_cmp_total}
use Rattle.std.proofs.lemmas.List.{append-nil, append_assoc, length-append, map-append}
use Rattle.std.proofs.lemmas.List.Elements.{filter-append}
use Rattle.std.proofs.lemmas.List.Filters.{length-filter_both}
use Rattle.std.proofs.lemmas.Map.Lookups.{exact_bytes}
use Rattle.std.proofs.lemmas.Slice.Eq.{bytes_eq-Decides}
use Rattle.plain_data.specs.Pairs.{text_cmp}
use Rattle.plain_data.specs.Rows.{IsAfter}
use Rattle.kube_parts.specs.declared.uid.Uid.{Uid}
use Rattle.call_types.specs.declared.reply.MountRow.{MountRow}
use Rattle.binder_model.specs.Same.{same_uid}
use Rattle.binder_model.specs.Devices.{MountAt, rows_on, is_up_to, put_mount, without_mount}
use Rattle.binder_model.proofs.Mounts.{rows_on_both}
use Rattle.device_model.specs.declared.mounts.NodeRows.{NodeRows}
use Rattle.device_model.specs.Kept.{node_name, AreNodes, IsNodeAt, IsNodeGap, mount_at, mounts_of}

-- names of nodes

not_equal : (a b : List ℕ) (r : Ordering) → text_cmp a b ≡ r → is_eq r ≡ false → bytes_eq a b ≡ false
not_equal a b r e h = by (bytes_eq a b) refl
  where
    by : (t : Bool) → bytes_eq a b ≡ t → t ≡ false
    by false f = refl
    by true f =
        let same : a ≡ b = (bytes_eq-Decides a b).0 f in
        let level : text_cmp a b ≡ Equal = subst (λ x. text_cmp a x ≡ Equal) same (tied_itself nat_list_cmp_total a) in
        absurd (true≢false (sym (ap is_eq level) ∙ ap is_eq e ∙ h))

-- the nodes all come after the name
abbrev IsAbove : List ℕ → List NodeRows → Type 0
IsAbove k [] = ⊤
IsAbove k (n ∷ ns) = (text_cmp n.node k ≡ Greater) × IsAbove k ns

above_of : (k : List ℕ) (y : NodeRows) (ns : List NodeRows) → is_lt (text_cmp y.node k) ≡ false → IsAfter text_cmp node_name y ns → IsAbove k ns
above_of k y [] h a = tt
above_of k y (z ∷ zs) h a = (by (text_cmp y.node k) refl h, above_of k y zs h a.1)
  where
    by : (r : Ordering) → text_cmp y.node k ≡ r → is_lt r ≡ false → text_cmp z.node k ≡ Greater
    by Less e f = absurd (true≢false f)
    by Equal e f = sym (alike_right nat_list_cmp_total y.node k z.node e) ∙ rw (nat_list_cmp_total.antisymm z.node y.node, a.0) refl
    by Greater e f =
        let back : text_cmp k y.node ≡ Less = rw (nat_list_cmp_total.antisymm k y.node, e) refl in
        let less = nat_list_cmp_total.trans k y.node z.node back a.0 in
        rw (nat_list_cmp_total.antisymm z.node k, less) refl

-- a test on the rows of one node, and on those of nodes after a name

module _ (p : MountAt → Bool) where
  all_on : (node : List ℕ) → ((r : MountRow) → p (mount_at node r) ≡ true) → (rows : List MountRow) → filter p (map (mount_at node) rows) ≡ map (mount_at node) rows
  all_on node pass [] = refl
  all_on node pass (r ∷ rs) = rw (pass r) (ap (λ ms. mount_at node r ∷ ms) (all_on node pass rs))

  none_on : (node : List ℕ) → ((r : MountRow) → p (mount_at node r) ≡ false) → (rows : List MountRow) → filter p (map (mount_at node) rows) ≡ []
  none_on node fail [] = refl
  none_on node fail (r ∷ rs) = rw (fail r) (none_on node fail rs)

  all_above : (k : List ℕ) → ((node : List ℕ) → text_cmp node k ≡ Greater → (r : MountRow) → p (mount_at node r) ≡ true) → (ns : List NodeRows) → IsAbove k ns → filter p (mounts_of ns) ≡ mounts_of ns
  all_above k pass [] a = refl
  all_above k pass (n ∷ ns) a = filter-append p (map (mount_at n.node) n.rows.items) (mounts_of ns) ∙ rw (all_on n.node (pass n.node a.0) n.rows.items, all_above k pass ns a.1) refl

  none_above : (k : List ℕ) → ((node : List ℕ) → text_cmp node k ≡ Greater → (r : MountRow) → p (mount_at node r) ≡ false) → (ns : List NodeRows) → IsAbove k ns → filter p (mounts_of ns) ≡ []
  none_above k fail [] a = refl
  none_above k fail (n ∷ ns) a = filter-append p (map (mount_at n.node) n.rows.items) (mounts_of ns) ∙ rw (none_on n.node (fail n.node a.0) n.rows.items, none_above k fail ns a.1) refl

-- the rows of a node

rows_on_own : (k node : List ℕ) → bytes_eq node k ≡ true → (rows : List MountRow) → rows_on k (map (mount_at node) rows) ≡ rows
rows_on_own k node own [] = refl
rows_on_own k node own (r ∷ rs) = rw own (ap (λ xs. r ∷ xs) (rows_on_own k node own rs))

rows_on_other : (k node : List ℕ) → bytes_eq node k ≡ false → (rows : List MountRow) → rows_on k (map (mount_at node) rows) ≡ []
rows_on_other k node other [] = refl
rows_on_other k node other (r ∷ rs) = rw other (rows_on_other k node other rs)

rows_above : (k : List ℕ) (ns : List NodeRows) → IsAbove k ns → rows_on k (mounts_of ns) ≡ []
rows_above k [] a = refl
rows_above k (n ∷ ns) a = rows_on_both k (map (mount_at n.node) n.rows.items) (mounts_of ns) ∙ rw (rows_on_other k n.node (not_equal n.node k Greater a.0 refl) n.rows.items, rows_above k ns a.1) refl

equal_names : (a b : List ℕ) → text_cmp a b ≡ Equal → a ≡ b
equal_names a b e = exact_bytes a b e

same_bytes : (a b : List ℕ) → text_cmp a b ≡ Equal → bytes_eq a b ≡ true
same_bytes a b e = (bytes_eq-Decides a b).1 (equal_names a b e)

-- the rows of a node that is there, and of one that is not
pub rows_at : (k : List ℕ) (ns : List NodeRows) (i : ℕ) (d : NodeRows) → AreNodes ns → IsNodeAt ns k i → rows_on k (mounts_of ns) ≡ (get_or ns i d).rows.items
rows_at k [] i d rising at = absurd at
rows_at k (n ∷ ns) zero d rising at =
    rows_on_both k (map (mount_at n.node) n.rows.items) (mounts_of ns)
    ∙ rw (rows_on_own k n.node (same_bytes n.node k at) n.rows.items, rows_above k ns (above_of k n ns (ap is_lt at) rising.0)) (append-nil n.rows.items)
rows_at k (n ∷ ns) (suc i) d rising at =
    rows_on_both k (map (mount_at n.node) n.rows.items) (mounts_of ns)
    ∙ rw (rows_on_other k n.node (not_equal n.node k Less at.0 refl) n.rows.items) (rows_at k ns i d rising.1 at.1)

pub rows_gap : (k : List ℕ) (ns : List NodeRows) (i : ℕ) → AreNodes ns → IsNodeGap ns k i → rows_on k (mounts_of ns) ≡ []
rows_gap k [] i rising gap = refl
rows_gap k (n ∷ ns) zero rising gap = rows_above k (n ∷ ns) (gap, above_of k n ns (ap is_lt gap) rising.0)
rows_gap k (n ∷ ns) (suc i) rising gap =
    rows_on_both k (map (mount_at n.node) n.rows.items) (mounts_of ns)
    ∙ rw (rows_on_other k n.node (not_equal n.node k Less gap.0 refl) n.rows.items) (rows_gap k ns i rising.1 gap.1)

-- a new row

module _ (k : List ℕ) (r : MountRow) where
  -- a node before the name
  put_before : (n : NodeRows) (ns : List NodeRows) → text_cmp n.node k ≡ Less
      → put_mount (mount_at k r) (mounts_of (n ∷ ns)) ≡ map (mount_at n.node) n.rows.items ++ put_mount (mount_at k r) (mounts_of ns)
  put_before n ns less =
      let up : (m : MountRow) → is_up_to k (mount_at n.node m) ≡ true = λ m. rw less refl in
      let down : (m : MountRow) → not (is_up_to k (mount_at n.node m)) ≡ false = λ m. rw less refl in
      rw (
        filter-append (is_up_to k) (map (mount_at n.node) n.rows.items) (mounts_of ns),
        filter-append (λ m. not (is_up_to k m)) (map (mount_at n.node) n.rows.items) (mounts_of ns),
        all_on (is_up_to k) n.node up n.rows.items,
        none_on (λ m. not (is_up_to k m)) n.node down n.rows.items,
      ) (append_assoc (map (mount_at n.node) n.rows.items) (filter (is_up_to k) (mounts_of ns)) _)

  -- nodes after the name
  none_up : (ns : List NodeRows) → IsAbove k ns → filter (is_up_to k) (mounts_of ns) ≡ []
  none_up ns a = none_above (is_up_to k) k (λ node e m. rw e refl) ns a

  all_down : (ns : List NodeRows) → IsAbove k ns → filter (λ m. not (is_up_to k m)) (mounts_of ns) ≡ mounts_of ns
  all_down ns a = all_above (λ m. not (is_up_to k m)) k (λ node e m. rw e refl) ns a

  -- the node itself
  put_own : (n x : NodeRows) (ns : List NodeRows) → text_cmp n.node k ≡ Equal → IsAbove k ns → x.node ≡ n.node
      → x.rows.items ≡ n.rows.items ++ r ∷ [] → mounts_of (x ∷ ns) ≡ put_mount (mount_at k r) (mounts_of (n ∷ ns))
  put_own n x ns level above node rows =
      let name : n.node ≡ k = equal_names n.node k level in
      let up : (m : MountRow) → is_up_to k (mount_at n.node m) ≡ true = λ m. rw level refl in
      let down : (m : MountRow) → not (is_up_to k (mount_at n.node m)) ≡ false = λ m. rw level refl in
      rw (
        node,
        rows,
        filter-append (is_up_to k) (map (mount_at n.node) n.rows.items) (mounts_of ns),
        filter-append (λ m. not (is_up_to k m)) (map (mount_at n.node) n.rows.items) (mounts_of ns),
        all_on (is_up_to k) n.node up n.rows.items,
        none_on (λ m. not (is_up_to k m)) n.node down n.rows.items,
        none_up ns above,
        all_down ns above,
        append-nil (map (mount_at n.node) n.rows.items),
        map-append (mount_at n.node) n.rows.items (r ∷ []),
      ) (append_assoc (map (mount_at n.node) n.rows.items) (mount_at n.node r ∷ []) (mounts_of ns) ∙ ap (λ z. map (mount_at n.node) n.rows.items ++ mount_at z r ∷ mounts_of ns) name)

  pub put_at_node : (ns : List NodeRows) (i : ℕ) (d x : NodeRows) → AreNodes ns → IsNodeAt ns k i → x.node ≡ (get_or ns i d).node
      → x.rows.items ≡ (get_or ns i d).rows.items ++ r ∷ [] → mounts_of (set ns i x) ≡ put_mount (mount_at k r) (mounts_of ns)
  put_at_node [] i d x rising at node rows = absurd at
  put_at_node (n ∷ ns) zero d x rising at node rows = put_own n x ns at (above_of k n ns (ap is_lt at) rising.0) node rows
  put_at_node (n ∷ ns) (suc i) d x rising at node rows =
      ap (λ ms. map (mount_at n.node) n.rows.items ++ ms) (put_at_node ns i d x rising.1 at.1 node rows) ∙ sym (put_before n ns at.0)

  pub put_new_node : (ns : List NodeRows) (i : ℕ) (x : NodeRows) → AreNodes ns → IsNodeGap ns k i → x.node ≡ k → x.rows.items ≡ r ∷ []
      → mounts_of (insert ns i x) ≡ put_mount (mount_at k r) (mounts_of ns)
  put_new_node [] zero x rising gap node rows = rw (node, rows) refl
  put_new_node [] (suc i) x rising gap node rows = absurd gap
  put_new_node (n ∷ ns) zero x rising gap node rows =
      let above : IsAbove k (n ∷ ns) = (gap, above_of k n ns (ap is_lt gap) rising.0) in
      rw (node, rows, none_up (n ∷ ns) above, all_down (n ∷ ns) above) refl
  put_new_node (n ∷ ns) (suc i) x rising gap node rows =
      ap (λ ms. map (mount_at n.node) n.rows.items ++ ms) (put_new_node ns i x rising.1 gap.1 node rows) ∙ sym (put_before n ns gap.0)

-- the rows without a pod's on a node

module _ (k : List ℕ) (pod : Uid) where
  stays_elsewhere : (node : List ℕ) → bytes_eq node k ≡ false → (r : MountRow) → not (bytes_eq node k && same_uid r.pod pod) ≡ true
  stays_elsewhere node other r = rw other refl

  without_own : (node : List ℕ) → bytes_eq node k ≡ true → (rows : List MountRow) → without_mount k pod (map (mount_at node) rows) ≡ map (mount_at node) (filter (λ r. not (same_uid r.pod pod)) rows)
  without_own node own [] = refl
  without_own node own (r ∷ rs) = rw own (by (same_uid r.pod pod) (without_own node own rs))
    where
      by : (b : Bool) → without_mount k pod (map (mount_at node) rs) ≡ map (mount_at node) (filter (λ r. not (same_uid r.pod pod)) rs)
          → cond (not b) (mount_at node r ∷ without_mount k pod (map (mount_at node) rs)) (without_mount k pod (map (mount_at node) rs)) ≡ map
          (mount_at node) (cond (not b) (r ∷ filter (λ r. not (same_uid r.pod pod)) rs) (filter (λ r. not (same_uid r.pod pod)) rs))
      by true rest = rest
      by false rest = ap (λ ms. mount_at node r ∷ ms) rest

  without_above : (ns : List NodeRows) → IsAbove k ns → without_mount k pod (mounts_of ns) ≡ mounts_of ns
  without_above ns a = all_above (λ m. not (bytes_eq m.node k && same_uid m.row.pod pod)) k (λ node e. stays_elsewhere node (not_equal node k Greater e refl)) ns a

  without_before : (n : NodeRows) (ns : List NodeRows) → text_cmp n.node k ≡ Less → without_mount k pod (mounts_of (n ∷ ns)) ≡ map (mount_at n.node) n.rows.items ++ without_mount k pod (mounts_of ns)
  without_before n ns less =
      filter-append (λ m. not (bytes_eq m.node k && same_uid m.row.pod pod)) (map (mount_at n.node) n.rows.items) (mounts_of ns)
      ∙ rw (all_on (λ m. not (bytes_eq m.node k && same_uid m.row.pod pod)) n.node (stays_elsewhere n.node (not_equal n.node k Less less refl)) n.rows.items) refl

  pub without_at_node : (ns : List NodeRows) (i : ℕ) (d x : NodeRows) → AreNodes ns → IsNodeAt ns k i → x.node ≡ (get_or ns i d).node
      → x.rows.items ≡ filter (λ r. not (same_uid r.pod pod)) (get_or ns i d).rows.items → mounts_of (set ns i x) ≡ without_mount k pod (mounts_of ns)
  without_at_node [] i d x rising at node rows = absurd at
  without_at_node (n ∷ ns) zero d x rising at node rows =
      sym (filter-append (λ m. not (bytes_eq m.node k && same_uid m.row.pod pod)) (map (mount_at n.node) n.rows.items) (mounts_of ns)
      ∙ rw (without_own n.node (same_bytes n.node k at) n.rows.items, without_above ns (above_of k n ns (ap is_lt at) rising.0), node, rows) refl)
  without_at_node (n ∷ ns) (suc i) d x rising at node rows =
      ap (λ ms. map (mount_at n.node) n.rows.items ++ ms) (without_at_node ns i d x rising.1 at.1 node rows) ∙ sym (without_before n ns at.0)

  pub without_gap : (ns : List NodeRows) (i : ℕ) → AreNodes ns → IsNodeGap ns k i → mounts_of ns ≡ without_mount k pod (mounts_of ns)
  without_gap [] i rising gap = refl
  without_gap (n ∷ ns) zero rising gap = sym (without_above (n ∷ ns) (gap, above_of k n ns (ap is_lt gap) rising.0))
  without_gap (n ∷ ns) (suc i) rising gap = ap (λ ms. map (mount_at n.node) n.rows.items ++ ms) (without_gap ns i rising.1 gap.1) ∙ sym (without_before n ns gap.0)

  -- the node's rows are then its rows but for the pod's
  pub rows_on_without : (ms : List MountAt) → rows_on k (without_mount k pod ms) ≡ filter (λ r. not (same_uid r.pod pod)) (rows_on k ms)
  rows_on_without [] = refl
  rows_on_without (m ∷ ms) = by (bytes_eq m.node k) refl (rows_on_without ms)
    where
      row : (b : Bool) → same_uid m.row.pod pod ≡ b → bytes_eq m.node k ≡ true → rows_on k (without_mount k pod ms) ≡ filter (λ r. not (same_uid r.pod pod)) (rows_on k ms)
          → rows_on k (cond (not b) (m ∷ without_mount k pod ms) (without_mount k pod ms)) ≡ cond (not b)
          (m.row ∷ filter (λ r. not (same_uid r.pod pod)) (rows_on k ms)) (filter (λ r. not (same_uid r.pod pod)) (rows_on k ms))
      row true e own rest = rest
      row false e own rest = rw own (ap (λ rs. m.row ∷ rs) rest)

      by : (own : Bool) → bytes_eq m.node k ≡ own → rows_on k (without_mount k pod ms) ≡ filter (λ r. not (same_uid r.pod pod)) (rows_on k ms)
          → rows_on k (cond (not (own && same_uid m.row.pod pod)) (m ∷ without_mount k pod ms) (without_mount k pod ms)) ≡ filter
          (λ r. not (same_uid r.pod pod)) (if own then m.row ∷ rows_on k ms else rows_on k ms)
      by true own rest = row (same_uid m.row.pod pod) refl own rest
      by false other rest = rw other rest

-- a node with other rows

after_named : (n x : NodeRows) (ns : List NodeRows) → x.node ≡ n.node → IsAfter text_cmp node_name n ns → IsAfter text_cmp node_name x ns
after_named n x [] is a = tt
after_named n x (y ∷ ys) is a = (rw is a.0, after_named n x ys is a.1)

after_set : (z : NodeRows) (ns : List NodeRows) (i : ℕ) (d x : NodeRows) → x.node ≡ (get_or ns i d).node → IsAfter text_cmp node_name z ns → IsAfter text_cmp node_name z (set ns i x)
after_set z [] i d x is a = tt
after_set z (n ∷ ns) zero d x is a = (rw is a.0, a.1)
after_set z (n ∷ ns) (suc i) d x is a = (a.0, after_set z ns i d x is a.1)

pub rising_set : (ns : List NodeRows) (i : ℕ) (d x : NodeRows) → x.node ≡ (get_or ns i d).node → AreNodes ns → AreNodes (set ns i x)
rising_set [] i d x is rising = tt
rising_set (n ∷ ns) zero d x is rising = (after_named n x ns is rising.0, rising.1)
rising_set (n ∷ ns) (suc i) d x is rising = (after_set n ns i d x is rising.0, rising_set ns i d x is rising.1)

pub mounts_set : (ns : List NodeRows) (i : ℕ) (d x : NodeRows) → x.node ≡ (get_or ns i d).node → x.rows.items ≡ (get_or ns i d).rows.items → mounts_of (set ns i x) ≡ mounts_of ns
mounts_set [] i d x is rows = refl
mounts_set (n ∷ ns) zero d x is rows = rw (is, rows) refl
mounts_set (n ∷ ns) (suc i) d x is rows = ap (λ ms. map (mount_at n.node) n.rows.items ++ ms) (mounts_set ns i d x is rows)

-- how many rows there are

pub length-put_mount : (new : MountAt) (ms : List MountAt) → length (put_mount new ms) ≡ length ms + 1
length-put_mount new ms =
    let split = length-filter_both (is_up_to new.node) (λ m. not (is_up_to new.node m)) (λ m. refl) ms in
    length-append (filter (is_up_to new.node) ms) _ ∙ omega (arith, split)

pub length-without_mount : (k : List ℕ) (pod : Uid) (ms : List MountAt) → length (without_mount k pod ms) ≤ length ms
length-without_mount k pod ms =
    let split = length-filter_both (λ m. not (bytes_eq m.node k && same_uid m.row.pod pod)) (λ m. not (not (bytes_eq m.node k && same_uid m.row.pod pod))) (λ m. refl) ms in
    omega (arith, split)
