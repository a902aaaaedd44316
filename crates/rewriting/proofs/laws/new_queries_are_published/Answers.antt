use Rattle.rewriting.proofs.NewQueries.{new_query_is_published}
use Rattle.rewriting.proofs.Numbering.{new_query_is_one}
use Rattle.rewriting.proofs.laws.new_queries_are_published.Goals as goal

pub returns : goal.returns
returns c = record { one = new_query_is_one; published = new_query_is_published }
