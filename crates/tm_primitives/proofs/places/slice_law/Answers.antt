use Rattle.tm_primitives.proofs.Laws.{within, spaced, before, done, strict}
use Rattle.tm_primitives.proofs.places.slice_law.Goals as goal

pub returns : goal.returns
returns c = record {
  within = within c.args.length c.args.start c.args.stop c.args.step c.requires.nonzero;
  spaced = spaced c.args.length c.args.start c.args.stop c.args.step c.requires.nonzero;
  before = before c.args.length c.args.start c.args.stop c.args.step c.requires.nonzero;
  done = done c.args.length c.args.start c.args.stop c.args.step c.requires.nonzero;
  strict = strict c.args.length c.args.start c.args.stop c.args.step c.requires.nonzero;
}
