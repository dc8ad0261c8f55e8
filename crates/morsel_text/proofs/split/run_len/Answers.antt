use Rattle.morsel_text.proofs.LaneLemmas.{first_nearer, second_nearer}
use Rattle.morsel_text.proofs.split.run_len.Goals as goal

pub returns-then-fields-lines : goal.returns-then-fields-lines
returns-then-fields-lines c =
    first_nearer c.args.separator c.args.eol c.args.text.now c.args.at c.lane_len-fields.result c.lane_len-lines.result c.requires
    c.lane_len-fields.ensures c.lane_len-lines.ensures c.if-fields-lines.true

pub returns-else-fields-lines : goal.returns-else-fields-lines
returns-else-fields-lines c =
    second_nearer c.args.separator c.args.eol c.args.text.now c.args.at c.lane_len-fields.result c.lane_len-lines.result c.requires
    c.lane_len-fields.ensures c.lane_len-lines.ensures c.if-fields-lines.false
