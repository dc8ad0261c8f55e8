use Rattle.morsel_sink.proofs.json_node.parts_are_the_text.Goals as goal
use Rattle.morsel_sink.proofs.SinkLemmas.{text-parts}

-- src/json_node.rt:64:1
pub returns : goal.returns
returns c = text-parts
