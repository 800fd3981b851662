use Rattle.std.proofs.Common.{◌+◌, ◌<◌, ◌≤◌, ◌∙◌, ap, length, refl, subst}
use Rattle.script_text.specs.declared.index.Index.{Index}
use Rattle.script_text.proofs.Indexes.{HasOneMore, create_noted, nodes_passed, none_passed}
use Rattle.script_text.proofs.index.note_create.Goals as goal
use Rattle.script_text.specs.Said.{and_node, node_name}
use Rattle.script_text.specs.Grammar.{most_nodes}

pub returns-then-as_slice-gt-MOST_NODES : goal.returns-then-as_slice-gt-MOST_NODES
returns-then-as_slice-gt-MOST_NODES c =
    let new : Index = record {
      agents = c.note_node.new.agents;
      losses = c.args.index.now.losses;
      restarts = c.args.index.now.restarts;
      objects =
          c.args.index.now.objects + 1;
      calls = c.args.index.now.calls;
    } in
    let more : HasOneMore c.args.index.now new (node_name c.args.object.now) =
    record { agents = c.in_ok-note_node.ensures.ok ∙ ap (and_node c.args.index.now.agents) c.node_name.ensures; losses = refl; restarts = refl; objects = refl; calls = refl } in
    nodes_passed c.args._imports.now c.args.index.now new c.args._before.now c.args.line.now c.args.object.now c.requires.index c.requires.created
    more c.if-index-ge-MOST_OBJECTS.false (subst (λ a. most_nodes < length a) c.as_slice.ensures.pairs c.if-as_slice-gt-MOST_NODES.true)

pub returns : goal.returns
returns c =
    let new : Index = record {
      agents = c.note_node.new.agents;
      losses = c.args.index.now.losses;
      restarts = c.args.index.now.restarts;
      objects =
          c.args.index.now.objects + 1;
      calls = c.args.index.now.calls;
    } in
    let more : HasOneMore c.args.index.now new (node_name c.args.object.now) =
    record { agents = c.in_ok-note_node.ensures.ok ∙ ap (and_node c.args.index.now.agents) c.node_name.ensures; losses = refl; restarts = refl; objects = refl; calls = refl } in (
      create_noted c.args._imports.now c.args.index.now new c.args._before.now c.args.line.now c.args.object.now c.requires.index c.requires.created more,
      none_passed c.args._imports.now c.args.index.now new c.args._before.now c.args.line.now c.args.object.now c.requires.index c.requires.created
          more c.if-index-ge-MOST_OBJECTS.false (subst (λ a. length a ≤ most_nodes) c.as_slice.ensures.pairs c.if-as_slice-gt-MOST_NODES.false),
    )
