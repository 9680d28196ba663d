use Rattle.timed_paths.proofs.AnswerLaws.{led_none, led_held, led_timed}
use Rattle.timed_paths.proofs.answers.timing_through.Goals as goal

pub timed-requires-clause-sources : goal.timed-requires-clause-sources
timed-requires-clause-sources g c = record {
  graph = c.requires.sources.graph;
  told = c.requires.sources.told;
  delayed = c.requires.sources.delayed;
  wired = c.requires.wires;
  none = c.requires.sources.none;
}

pub timed-requires-clause-path : goal.timed-requires-clause-path
timed-requires-clause-path g c =
    led_held c.args.sources.now.store.now c.args.sources.now.kind c.args.endpoint.now c.in_ok-found.found c.args.pins.now c.in_ok-found.ensures c.in-Some.path c.in-Some.is

pub returns-in_ok-timed-in-Some : goal.returns-in_ok-timed-in-Some
returns-in_ok-timed-in-Some g c =
    led_timed c.args.sources.now.store.now c.args.sources.now.kind c.args.endpoint.now c.in_ok-found.found c.args.pins.now c.in_ok-found.ensures c.in-Some.path c.in-Some.is
    c.in_ok-timed-in-Some.field-0 c.in_ok-timed-in-Some.ensures.path c.in_ok-timed-in-Some.ensures.timed

pub returns-in-None : goal.returns-in-None
returns-in-None g c =
    led_none c.args.sources.now.store.now c.args.sources.now.kind c.args.endpoint.now c.in_ok-found.found c.args.pins.now c.in_ok-found.ensures c.in-None.is
