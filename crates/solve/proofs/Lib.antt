mod CommentLemmas
mod EndLemmas
mod ValueLemmas
