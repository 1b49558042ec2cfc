use Rattle.line_reader.proofs.Feeds.{first_feed_is}
use Rattle.line_reader.proofs.feed.first_feed.Goals as goal

pub returns : goal.returns
returns c = first_feed_is _ _ c.memchr.ensures
