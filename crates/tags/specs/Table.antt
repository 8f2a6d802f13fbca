-- The tables of definitions beside a paper's sentences (crate `samples`), for the layer above.
pub use Rattle.samples.specs.Table.{Row, row, Agrees, span, each, refused_by, not_refused_by}
