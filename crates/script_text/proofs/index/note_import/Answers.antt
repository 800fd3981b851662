use Rattle.std.proofs.Common.{◌+◌, ◌<◌, ◌≤◌, ◌∙◌, ap, length, refl, subst}
use Rattle.script_text.specs.declared.index.Index.{Index}
use Rattle.script_text.specs.Said.{and_node, imported_node}
use Rattle.script_text.specs.Grammar.{most_nodes}
use Rattle.script_text.proofs.Indexes.{HasOneMore, imported_nodes_passed, import_kept}
use Rattle.script_text.proofs.index.note_import.Goals as goal

pub returns-then-as_slice-gt-MOST_NODES : goal.returns-then-as_slice-gt-MOST_NODES
returns-then-as_slice-gt-MOST_NODES c =
    let new : Index = record {
      agents = c.note_node.new.agents;
      losses = c.args.index.now.losses;
      restarts = c.args.index.now.restarts;
      objects =
          c.args.index.now.objects + 1;
      calls = c.args.index.now.calls;
    } in
    let more : HasOneMore c.args.index.now new (imported_node c.args.object.now) =
    record { agents = c.in_ok-note_node.ensures.ok ∙ ap (and_node c.args.index.now.agents) c.imported_node.ensures; losses = refl; restarts = refl; objects = refl; calls = refl } in
    imported_nodes_passed c.args.index.now new c.args._imports.now c.args._lines.now c.args.object.now c.requires.index c.requires.early more
    c.if-index-ge-MOST_OBJECTS.false (subst (λ a. most_nodes < length a) c.as_slice.ensures.pairs c.if-as_slice-gt-MOST_NODES.true)

pub returns : goal.returns
returns c =
    let new : Index = record {
      agents = c.note_node.new.agents;
      losses = c.args.index.now.losses;
      restarts = c.args.index.now.restarts;
      objects =
          c.args.index.now.objects + 1;
      calls = c.args.index.now.calls;
    } in
    let more : HasOneMore c.args.index.now new (imported_node c.args.object.now) =
    record { agents = c.in_ok-note_node.ensures.ok ∙ ap (and_node c.args.index.now.agents) c.imported_node.ensures; losses = refl; restarts = refl; objects = refl; calls = refl } in
    import_kept c.args.index.now new c.args._imports.now c.args._lines.now c.args.object.now c.requires.index c.requires.early more
    c.if-index-ge-MOST_OBJECTS.false (subst (λ a. length a ≤ most_nodes) c.as_slice.ensures.pairs c.if-as_slice-gt-MOST_NODES.false)
