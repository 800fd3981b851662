-- Texts that are scripts: their lines, and the numbers of these.
-- A choice of this project: the script format.
use Rattle.std.specs.Prelude.{◌≡◌, [], ◌∷◌, Ok, codes}
use Rattle.script_lines.specs.Actors.{with_node}
use Rattle.script_lines.specs.declared.actors.Actor.TheVariants.{Agent}
use Rattle.call_types.specs.declared.request.Request.TheVariants.{Create}
use Rattle.script_text.specs.declared.script.Line.TheVariants.{Call, Turn, Drain}
use Rattle.script_text.specs.Grammar.{agents_in, read_numbered_of}
use Rattle.text_examples.specs.Script.Samples.{node_n}

pub record TextExamples : Type 0 where
  pub empty : read_numbered_of [] ≡ Ok (record { script = record { setup = record { pools = []; faults = []; imports = [] }; lines = []; node_names = []; sizes = [] }; numbers = [] })
  pub the_last_line_feed_may_lack : read_numbered_of (codes "{\"do\":\"drain\"}") ≡ read_numbered_of (codes "{\"do\":\"drain\"}\n")
  pub faults_rise : read_numbered_of (codes "{\"do\":\"fault\",\"call\":3}\n{\"do\":\"fault\",\"call\":2}\n") ≡ Ok
      (record { script = record { setup = record { pools = []; faults = 2 ∷ 3 ∷ []; imports = [] }; lines = []; node_names = []; sizes = [] }; numbers = [] })
  pub blank_lines_have_numbers : read_numbered_of (codes "\n{\"do\":\"drain\"}\n\t\n{\"do\":\"drain\"}\n") ≡ Ok
      (record { script = record { setup = record { pools = []; faults = []; imports = [] }; lines = Drain ∷ Drain ∷ []; node_names = []; sizes = [] }; numbers = 2 ∷ 4 ∷ [] })
  pub the_node_may_come_later : read_numbered_of
      (codes "{\"do\":\"turn\",\"actor\":\"agent-n\",\"calls\":1}\n{\"do\":\"create\",\"object\":{\"apiVersion\":\"v1\",\"kind\":\"Node\",\"metadata\":{\"name\":\"n\"}}}\n") ≡ Ok
      (record {
        script = record {
          setup = record { pools = []; faults = []; imports = [] };
          lines = Turn (Agent (codes "n")) 1 ∷ Call 1
              (Create node_n) ∷ [];
          node_names = codes "n" ∷ [];
          sizes = [];
        };
        numbers = 1 ∷ 2 ∷ [];
      })
  pub the_node_may_be_that_of_an_imported_pod :
      agents_in (codes "{\"do\":\"import\",\"object\":{\"apiVersion\":\"v1\",\"kind\":\"Pod\",\"metadata\":{\"name\":\"p\"},\"spec\":{\"nodeName\":\"n\"}}}" ∷ []) ≡ with_node (codes "n") []
  pub not_that_of_a_created_pod :
      agents_in (codes "{\"do\":\"create\",\"object\":{\"apiVersion\":\"v1\",\"kind\":\"Pod\",\"metadata\":{\"name\":\"p\"},\"spec\":{\"nodeName\":\"n\"}}}" ∷ []) ≡ []
