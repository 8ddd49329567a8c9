use Rattle.std.proofs.Common.{◌≡◌, sym, ap, ◌∙◌}
use Rattle.block_tree.specs.GridOf.{grid_of}
use Rattle.check_format.specs.Nodes.{codes_of}
use Rattle.check_format.specs.Numbers.{values_in}
use Rattle.check_format.specs.Readers.{head_in}
use Rattle.check_format.specs.ReadImages.{stored_in}
use Rattle.check_format.proofs.ReadImages.{body_ending, body_header, body_tree, body_values, body_whole}
use Rattle.check_format.proofs.reading.images.body_of.Goals as goal

pub returns-in-Ok-None-clause-stop : goal.returns-in-Ok-None-clause-stop
returns-in-Ok-None-clause-stop c = body_header c.args.bytes.now (rw c.in-Ok-None.field-0-is at c.in-Ok-None.ensures.read)

pub returns-in-Ok-None-nodes_at-clause-stop : goal.returns-in-Ok-None-nodes_at-clause-stop
returns-in-Ok-None-nodes_at-clause-stop c =
    let header = c.in-Ok-Some.read.0 in
    let rest = c.in-Ok-Some.read.1.now in
    body_tree c.args.bytes.now (head_in header) rest (rw c.in-Ok-Some.field-0-is at c.in-Ok-Some.ensures.read)
    (rw c.in-Ok-None-nodes_at.field-0-is at c.in-Ok-None-nodes_at.ensures.read)

pub returns-in-Ok-None-values_at-clause-stop : goal.returns-in-Ok-None-values_at-clause-stop
returns-in-Ok-None-values_at-clause-stop c =
    let header = c.in-Ok-Some.read.0 in
    let nodes = c.in-Ok-Some-nodes_at.read.0 in
    body_values c.args.bytes.now (head_in header) c.in-Ok-Some.read.1.now (rw c.in-Ok-Some.field-0-is at c.in-Ok-Some.ensures.read)
    (codes_of (grid_of nodes.tree) nodes.marks) c.in-Ok-Some-nodes_at.read.1.now (rw c.in-Ok-Some-nodes_at.field-0-is at c.in-Ok-Some-nodes_at.ensures.read)
    (grid_of nodes.tree) (rw c.in-Ok-Some-nodes_at.field-0-is at c.in-Ok-Some-nodes_at.ensures.grid) c.counts_of-counts.result c.counts_of-counts.ensures
    (rw c.in-Ok-None-values_at.field-0-is at c.in-Ok-None-values_at.ensures.read)

pub returns-then-not-is_empty-clause-stop : goal.returns-then-not-is_empty-clause-stop
returns-then-not-is_empty-clause-stop c =
    let header = c.in-Ok-Some.read.0 in
    let nodes = c.in-Ok-Some-nodes_at.read.0 in
    body_ending c.args.bytes.now (head_in header) c.in-Ok-Some.read.1.now (rw c.in-Ok-Some.field-0-is at c.in-Ok-Some.ensures.read)
    (codes_of (grid_of nodes.tree) nodes.marks) c.in-Ok-Some-nodes_at.read.1.now (rw c.in-Ok-Some-nodes_at.field-0-is at c.in-Ok-Some-nodes_at.ensures.read)
    (grid_of nodes.tree) (rw c.in-Ok-Some-nodes_at.field-0-is at c.in-Ok-Some-nodes_at.ensures.grid) c.counts_of-counts.result c.counts_of-counts.ensures
    (values_in c.in-Ok-Some-values_at.read.0) c.in-Ok-Some-values_at.read.1.now (rw c.in-Ok-Some-values_at.field-0-is at c.in-Ok-Some-values_at.ensures.read)
    (sym c.is_empty.ensures ∙ c.if-not-is_empty.true)

pub returns-clause-image : goal.returns-clause-image
unfolding stored_in
returns-clause-image c =
    let header = c.in-Ok-Some.read.0 in
    let nodes = c.in-Ok-Some-nodes_at.read.0 in
    body_whole c.args.bytes.now (head_in header) c.in-Ok-Some.read.1.now (rw c.in-Ok-Some.field-0-is at c.in-Ok-Some.ensures.read)
    (codes_of (grid_of nodes.tree) nodes.marks) c.in-Ok-Some-nodes_at.read.1.now (rw c.in-Ok-Some-nodes_at.field-0-is at c.in-Ok-Some-nodes_at.ensures.read)
    (grid_of nodes.tree) (rw c.in-Ok-Some-nodes_at.field-0-is at c.in-Ok-Some-nodes_at.ensures.grid) c.counts_of-counts.result c.counts_of-counts.ensures
    (values_in c.in-Ok-Some-values_at.read.0) c.in-Ok-Some-values_at.read.1.now (rw c.in-Ok-Some-values_at.field-0-is at c.in-Ok-Some-values_at.ensures.read)
    (sym c.is_empty.ensures ∙ c.if-not-is_empty.false)
