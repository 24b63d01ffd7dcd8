mod examples
